use Rattle.std.proofs.Common.{[], ◌∙◌, rules}
use Rattle.stepping.proofs.outcome.steps_file.Goals as goal

pub returns : goal.returns
returns c =
    let done = c.step_lines-done.ensures in
    let text = done.page.text [] c.args.out.now c.new-page.ensures.fresh in
    let same = done.page.page ∙ c.new-page.ensures.page in
    record {
      out = search rules;
      length = c.used.ensures ∙ text.1;
      complete = done.complete;
      two = done.two;
      trend = done.trend;
      seepage = done.seepage;
      lent = done.lent;
      work = done.work;
      law = done.law;
      list = done.list;
    }
