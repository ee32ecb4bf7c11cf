use Rattle.std.proofs.Common.{◌≡◌, ◌+◌, length}
use Rattle.files.specs.Lines.{items}
use Rattle.stations.specs.Stations.{headed, head_left}
use Rattle.stations.proofs.header.Given as goal

-- what is left comes to what all came to
abbrev pub invariant-loop-line : goal.invariant-loop-line
invariant-loop-line l =
    (headed (l.lines.number + 1) (items l.lines.rest.now) ≡ headed (l.initial.lines.number + 1) (items l.initial.lines.rest.now))
    × (head_left (l.lines.number + 1) (items l.lines.rest.now) ≡ head_left (l.initial.lines.number + 1) (items l.initial.lines.rest.now))

abbrev pub decreases-loop-line : goal.decreases-loop-line
decreases-loop-line l = length l.lines.rest.now
