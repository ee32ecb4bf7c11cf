use Rattle.std.proofs.Common.{min, [], length, ap, ◌∙◌, rules}
use Rattle.checks.specs.Outcomes.{printed, passed}
use Rattle.checks.proofs.outcome.check_file.Goals as goal

pub returns : goal.returns
returns c =
    let out = c.args.out.now in
    let text = c.show-done.ensures.page.text [] out c.new-page.ensures.fresh in
    let same = c.show-done.ensures.page.page ∙ c.new-page.ensures.page in
    let is = c.outcome-outcome.ensures.answer in
    record {
      out = search rules;
      length = c.used.ensures ∙ text.1 ∙ ap (λ o. min (length (printed o)) (length out)) is;
      passes = c.show-done.ensures.passes ∙ ap passed is;
      list = c.outcome-outcome.ensures.list;
    }
