use Rattle.std.proofs.Common.{◌≡◌, map, take, None}
use Rattle.texts.specs.Texts.{reading, stray, spelled}
use Rattle.lists.specs.Words.{Spells}
use Rattle.lists.proofs.word.Spelling.read.Given as goal

-- the bytes so far are letters, and these are spelt
abbrev pub invariant-loop-i : goal.invariant-loop-i
invariant-loop-i g l =
    (stray (reading g.L.Letter.alphabet g.L.Printable.parsed) (take l.i l.bytes) ≡ None)
    × Spells l.spelling.first l.spelling.count (map g.L.Letter.alphabet.number (spelled (reading g.L.Letter.alphabet g.L.Printable.parsed) (take l.i l.bytes)))
