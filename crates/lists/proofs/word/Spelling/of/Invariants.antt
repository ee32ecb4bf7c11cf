use Rattle.std.proofs.Common.{map, take}
use Rattle.lists.specs.Words.{Spells}
use Rattle.lists.proofs.word.Spelling.of.Given as goal

-- the letters so far are spelt
abbrev pub invariant-loop-letter : goal.invariant-loop-letter
invariant-loop-letter g l = Spells l.spelling.first l.spelling.count (map g.L.Letter.alphabet.number (take l.letter-index l.pattern))
