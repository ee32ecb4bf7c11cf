use Rattle.std.proofs.Common.{List}
use Rattle.listlaw.specs.Patterns.{Word}
use Rattle.lists.specs.Linked.{Linked, Ended, Kept}
use Rattle.lists.proofs.links.Links.level.Given as goal

-- the states of that length so far are settled
abbrev pub invariant-loop-q : goal.invariant-loop-q
invariant-loop-q l = Kept l.initial.self l.self × Linked l.self l.d l.q × ((ps : List Word) → Ended l.initial.self l.d 1 ps → Ended l.self l.d l.q ps)
