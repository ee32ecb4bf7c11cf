use Rattle.std.proofs.Common.{is_some, sym, ap, ◌∙◌}
use Rattle.std.proofs.lemmas.Bool.{and_from, and_left, and_right}
use Rattle.joins.proofs.Merging.{overlap-hit, overlap_miss, same_parts, serves-rest}
use Rattle.joins.proofs.overlaps.overlap.Goals as goal
use Rattle.joins.proofs.overlaps.overlap.Goals.{else-same-via-then-same+else-is_some, else-same-via-else-same}

pub returns-then-is_some : goal.returns-then-is_some
returns-then-is_some g c =
    let A = g.S.Kind.Letter.alphabet in
    let m = g.S.Automaton.model c.args.automaton.now in
    let q = c.args.state in
    let u = c.args.left.now in
    let v = c.args.right.now in
    let o = c.loop-shared.shared in
    sym
    (c.loop-shared.invariant
    ∙ overlap-hit A m q u v o c.loop-shared-test.true
    (and_from _ _
    (sym (same_parts A m q u v o) ∙ sym c.same.ensures ∙ c.if-same.true)
    (sym (serves-rest A m q u v o) ∙ ap is_some (sym c.walk.ensures) ∙ sym c.is_some.ensures ∙ c.if-is_some.true)))

pub loop-shared-preserved : goal.loop-shared-preserved
loop-shared-preserved g c =
    let A = g.S.Kind.Letter.alphabet in
    let m = g.S.Automaton.model c.args.automaton.now in
    let q = c.args.state in
    let u = c.args.left.now in
    let v = c.args.right.now in
    let o = c.loop-shared.shared in
    let some = c.loop-shared-test.true in
    c.loop-shared.invariant
    ∙ overlap_miss A m q u v o some
    (elim c.else-same.branch [
      | else-same-via-then-same+else-is_some w ↦ and_right _ _ (sym (serves-rest A m q u v o) ∙ ap is_some (sym w.walk.ensures) ∙ sym w.is_some.ensures ∙ w.if-is_some.false)
      | else-same-via-else-same w ↦ and_left _ _ (sym (same_parts A m q u v o) ∙ sym c.same.ensures ∙ w.if-same.false)
    ])
