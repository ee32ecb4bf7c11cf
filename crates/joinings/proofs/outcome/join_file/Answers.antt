use Rattle.std.proofs.Common.{[], ◌∙◌, rules}
use Rattle.joinings.proofs.outcome.join_file.Goals as goal

pub returns : goal.returns
returns c =
    let out = c.args.out.now in
    let text = c.join_lines-done.ensures.page.text [] out c.new-page.ensures.fresh in
    let same = c.join_lines-done.ensures.page.page ∙ c.new-page.ensures.page in
    record {
      out = search rules;
      length = c.used.ensures ∙ text.1;
      joined = c.join_lines-done.ensures.joined;
      list = c.join_lines-done.ensures.list;
      desks = c.join_lines-done.ensures.desks;
    }
