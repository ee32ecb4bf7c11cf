use Rattle.std.proofs.Common.{ℕ, ◌+◌, ◌<◌}
use Rattle.lists.specs.Lists.{columns}
use Rattle.lists.specs.Links.{Others, Planted}
use Rattle.lists.proofs.links.plant.Given as goal

-- the children so far are planted
abbrev pub invariant-loop-j : goal.invariant-loop-j
invariant-loop-j l =
    ((a : ℕ) → a < columns l.initial.words → Planted l.tree.records.now l.initial.words l.words l.q (l.j + 1) a)
    × Others l.initial.words l.words l.q
