use Rattle.std.proofs.Common.{◌≡◌, length}
use Rattle.batch.proofs.work.Given as goal

abbrev pub invariant-loop-end : goal.invariant-loop-end
invariant-loop-end l = length l.out ≡ length l.initial.out

abbrev pub decreases-loop-end : goal.decreases-loop-end
decreases-loop-end l = length l.rest
