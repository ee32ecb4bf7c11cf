use Rattle.std.proofs.Common.{sym, ◌∙◌}
use Rattle.lists.proofs.Children.{child_found, child_missing}
use Rattle.lists.proofs.tree.Tree.child.Goals as goal

pub returns-in_err-place : goal.returns-in_err-place
returns-in_err-place c = rw c.from_residual.ensures (child_missing c.args.self.now c.args.under c.args.a (sym c.in_err-place.was ∙ c.place.ensures))

pub returns : goal.returns
returns c = child_found c.args.self.now c.args.under c.args.a c.in_ok-place.field-0 (sym c.in_ok-place.was ∙ c.place.ensures)
