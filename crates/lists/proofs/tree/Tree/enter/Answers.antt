use Rattle.std.proofs.Common.{ℕ, ◌+◌, ◌<◌, length, refl, subst, arith}
use Rattle.lists.specs.Names.{Reached}
use Rattle.lists.proofs.Entering.{entered_none, entered_more, next-room, front_long, front_at}
use Rattle.lists.proofs.tree.Tree.enter.Goals as goal

pub loop-k-init : goal.loop-k-init
loop-k-init c = (entered_none c.args.self.now c.args.word.now, refl)

pub reach-under-requires-clause-new : goal.reach-under-requires-clause-new
reach-under-requires-clause-new c new =
    let t = c.args.self.now in
    let s = c.loop-k.self in
    let w = c.args.word.now.letters.now in
    let front = c.front-letter-items.result.now in
    let long = front_long w front c.front-letter-items.ensures in
    let lt : c.loop-k.k + 1 < length w = omega arith in
    let is = front_at w front c.front-letter-items.ensures c.loop-k.k lt in
    next-room t c.args.word.now s c.loop-k.k c.loop-k.under c.loop-k.invariant.0 lt c.requires.1 (rw is at new)

pub loop-k-preserved : goal.loop-k-preserved
loop-k-preserved c =
    let t = c.args.self.now in
    let s = c.loop-k.self in
    let w = c.args.word.now.letters.now in
    let k = c.loop-k.k in
    let front = c.front-letter-items.result.now in
    let long = front_long w front c.front-letter-items.ensures in
    let lt : k + 1 < length w = omega arith in
    let r = subst (λ (a : ℕ). Reached s.records.now c.reach-under.new.self.records.now s.used c.loop-k.under a c.reach-under.result c.reach-under.new.self.used) (front_at w front c.front-letter-items.ensures k lt) c.reach-under.ensures.reached in (
      entered_more t c.args.word.now s k c.loop-k.under c.loop-k.invariant.0 lt _ _ _ r,
      omega arith,
    )
