use Rattle.std.proofs.Common.{arith}
use Rattle.joins.specs.Queue.{by}
use Rattle.joins.proofs.Traces.{length-numbers}
use Rattle.joins.proofs.trails.depth.Goals as goal

pub loop-at-preserved : goal.loop-at-preserved
loop-at-preserved c =
    let inv = c.loop-at.invariant in
    let le = inv.0 in
    let some = c.loop-at-test.true in
    let lower = c.requires.earlier c.loop-at.at some (omega arith) in (
      omega arith,
      λ ls.
          let n = length-numbers (by c.args.parents.now) ls c.args.place c.requires.earlier c.loop-at.at some (omega arith) in
          let k = inv.1 ls in
          omega arith,
    )
