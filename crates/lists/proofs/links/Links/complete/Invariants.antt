use Rattle.std.proofs.Common.{List}
use Rattle.listlaw.specs.Patterns.{Word}
use Rattle.lists.specs.Linked.{Linked, Ended, Kept}
use Rattle.lists.proofs.links.Links.complete.Given as goal

-- the shorter states are settled
abbrev pub invariant-loop-d : goal.invariant-loop-d
invariant-loop-d l = Kept l.initial.self l.self × Linked l.self l.d 1 × ((ps : List Word) → Ended l.initial.self 1 1 ps → Ended l.self l.d 1 ps)
