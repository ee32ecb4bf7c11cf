use Rattle.std.proofs.Common.{map, take}
use Rattle.pages.specs.Pages.{Wrote}
use Rattle.headings.proofs.show_letters.Given as goal

abbrev pub invariant-loop-letter : goal.invariant-loop-letter
invariant-loop-letter g l = Wrote l.initial.page l.page (map (λ x. g.L.Printable.printed (g.L.Letter.alphabet.number x)) (take l.letter-index l.letters))
