use Rattle.std.proofs.Common.{◌≡◌, ◌+◌, length}
use Rattle.files.specs.Lines.{items}
use Rattle.stations.specs.Stations.{ended, tail_left}
use Rattle.stations.proofs.tail.Given as goal

-- what is left comes to what all came to
abbrev pub invariant-loop-line : goal.invariant-loop-line
invariant-loop-line l =
    (ended (l.lines.number + 1) (items l.lines.rest.now) ≡ ended (l.initial.lines.number + 1) (items l.initial.lines.rest.now))
    × (tail_left (l.lines.number + 1) (items l.lines.rest.now) ≡ tail_left (l.initial.lines.number + 1) (items l.initial.lines.rest.now))

abbrev pub decreases-loop-line : goal.decreases-loop-line
decreases-loop-line l = length l.lines.rest.now
