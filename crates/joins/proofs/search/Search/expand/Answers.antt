use Rattle.std.proofs.Common.{◌+◌, sym, subst, slice_index, arith}
use Rattle.joins.specs.Queue.{by, step_by, Paused}
use Rattle.joins.proofs.Expansions.{expanding_room, expanding_none, expanding_seen, expanding_new, expanding_end}
use Rattle.joins.proofs.search.Search.expand.Goals as goal
use Rattle.joins.proofs.search.Search.expand.Goals.{in-Some+then-self-to-eq0, in-Some+else-self-to-eq0, in_default}

pub bounds-self-end : goal.bounds-self-end
bounds-self-end g c =
    let s = c.loop-number.self in
    let lt = expanding_room _ _ (g.S.Automaton.lawful s.automaton.now) _ _ _ _ _ _ _ _ _ c.loop-number.invariant.1 c.in-Some.to s.long_seen (sym c.in-Some.ensures) c.if-self-to-eq0.true in
    omega (arith, s.long_queue)

pub bounds-self-end-then-self-to-eq0 : goal.bounds-self-end-then-self-to-eq0
bounds-self-end-then-self-to-eq0 g c =
    let s = c.loop-number.self in
    let lt = expanding_room _ _ (g.S.Automaton.lawful s.automaton.now) _ _ _ _ _ _ _ _ _ c.loop-number.invariant.1 c.in-Some.to s.long_seen (sym c.in-Some.ensures) c.if-self-to-eq0.true in
    omega (arith, s.long_parents)

pub bounds-self-end-then-self-to-eq0-2 : goal.bounds-self-end-then-self-to-eq0-2
bounds-self-end-then-self-to-eq0-2 g c =
    let s = c.loop-number.self in
    let lt = expanding_room _ _ (g.S.Automaton.lawful s.automaton.now) _ _ _ _ _ _ _ _ _ c.loop-number.invariant.1 c.in-Some.to s.long_seen (sym c.in-Some.ensures) c.if-self-to-eq0.true in
    omega (arith, s.long_letters)

pub loop-number-preserved : goal.loop-number-preserved
loop-number-preserved g c =
    let s = c.loop-number.self in
    let same = c.loop-number.invariant.0 in
    let x = c.loop-number.invariant.1 in
    let l = g.S.Automaton.lawful s.automaton.now in
    elim c.match-step_by.branch [
      | in-Some+then-self-to-eq0 w ↦
          rw (w.end-is, w.self-is) (same, expanding_new _ _ l _ _ _ _ _ _ _ _ _ x w.in-Some.to s.long_seen s.long_queue s.long_parents s.long_letters (sym w.in-Some.ensures) w.if-self-to-eq0.true)
      | in-Some+else-self-to-eq0 w ↦
          let ne = w.if-self-to-eq0.false in
          rw (w.end-is, w.self-is) (same, expanding_seen _ _ l _ _ _ _ _ _ _ _ _ x w.in-Some.to (sym w.in-Some.ensures) (omega arith))
      | in_default w ↦
          rw (w.end-is, w.self-is) (same, expanding_none _ _ l _ _ _ _ _ _ _ _ _ x (sym w.in_default.ensures))
    ]

pub returns-clause-paused : goal.returns-clause-paused
returns-clause-paused g c =
    let s = c.loop-number.self in
    let A = g.S.Kind.Letter.alphabet in
    let M = g.S.Automaton.model in
    let was = c.args.self.now.queue.now in
    subst (λ a. Paused (step_by A.letter (M a)) (slice_index was 0) (M a).count (c.args.head + 1) c.loop-number.end s.seen.now (by s.queue.now) (by s.parents.now) (by s.letters.now)) c.loop-number.invariant.0
    (expanding_end _ _ (g.S.Automaton.lawful s.automaton.now) _ _ _ _ _ _ _ _ _ c.loop-number.invariant.1 A.size g.S.Kind.Letter.numbered.past (let size = c.count-number-end.ensures in omega arith))
