use Rattle.pages.specs.Pages.{Wrote}
use Rattle.headings.specs.Headings.{letter_bytes}
use Rattle.headings.proofs.show_alphabet.Given as goal

abbrev pub invariant-loop-n : goal.invariant-loop-n
invariant-loop-n g l = Wrote l.initial.page l.page (letter_bytes g.L.Printable.printed l.n)
