use Rattle.std.proofs.Common.{◌≡◌, ℕ, ◌<◌, true, get_or, take, is_some}
use Rattle.texts.specs.Texts.{reading, spelled}
use Rattle.joinings.proofs.contexts.spell.Given as goal

-- every byte so far reads as a letter, and those letters stand at the front of the table
abbrev pub invariant-loop-i : goal.invariant-loop-i
invariant-loop-i g l =
    let reads = reading g.L.Letter.alphabet g.L.Printable.parsed in
    ((k : ℕ) → k < l.i → is_some (reads (get_or l.bytes k 0)) ≡ true) × (take l.i l.table ≡ spelled reads (take l.i l.bytes))
