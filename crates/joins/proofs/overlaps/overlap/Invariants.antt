use Rattle.std.proofs.Common.{◌≡◌}
use Rattle.joinlaw.specs.Bridges.{overlap}
use Rattle.joins.proofs.overlaps.overlap.Given as goal

-- no larger overlap serves
abbrev pub invariant-loop-shared : goal.invariant-loop-shared
invariant-loop-shared g l =
    let A = g.S.Kind.Letter.alphabet in
    let m = g.S.Automaton.model l.automaton in
    overlap A m l.state l.left l.right l.most ≡ overlap A m l.state l.left l.right l.shared
