use Rattle.std.proofs.Common.{replicate}
use Rattle.pages.specs.Pages.{Wrote}
use Rattle.pages.proofs.Page.blanks.Given as goal

abbrev pub invariant-loop-i : goal.invariant-loop-i
invariant-loop-i l = Wrote l.initial.self l.self (replicate l._i 32)
