use Rattle.std.proofs.Common.{◌≡◌, ℕ, ◌+◌, ◌≤◌, length}
use Rattle.joins.specs.Queue.{by}
use Rattle.joins.specs.Spelling.{numbers}
use Rattle.joins.proofs.trails.depth.Given as goal

abbrev pub invariant-loop-at : goal.invariant-loop-at
invariant-loop-at l =
    (l.at + l.count ≤ l.place) × ((ls : ℕ → ℕ) → l.count + length (numbers (by l.parents) ls l.at) ≡ length (numbers (by l.parents) ls l.place))

abbrev pub decreases-loop-at : goal.decreases-loop-at
decreases-loop-at l = l.at
