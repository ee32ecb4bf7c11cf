use Rattle.std.proofs.Common.{◌≡◌, ◌+◌, drop, Ok, Err, ap, ◌∙◌, subst, arith}
use Rattle.std.proofs.lemmas.Result.{err_from_is_err_and}
use Rattle.sheets.specs.Views.{contents}
use Rattle.rewritelaw.specs.Traces.{go_on, fed, fed_as}
use Rattle.rewrites.proofs.Feeding.{fed-more, fed-all}
use Rattle.rewrites.proofs.Agreeing.{fed_cut}
use Rattle.rewrites.proofs.trace.feed.Goals as goal

pub loop-place-preserved : goal.loop-place-preserved
loop-place-preserved g c =
    let A = g.S.Kind.Letter.alphabet in
    let parsed = g.S.Kind.Printable.parsed in
    let m = g.S.Automaton.model c.args.sheet.now.automaton in
    let k = c.args.sheet.now.k in
    let bs = c.args.trace.now in
    let i = c.loop-place.place in
    let now = c.loop-place.invariant in
    let s = contents c.feed_byte.new.sheet in
    let t = c.feed_byte.new.text in
    let v = c.feed_byte.new.work in
    let more = fed-more A parsed m k bs i (contents c.loop-place.sheet) s c.loop-place.text t c.loop-place.work v c.feed_byte.result _ _ c.loop-place-test.true (ap g.S.Automaton.model now.2) now.1 c.feed_byte.ensures.fed_whole in (
      subst (λ r. go_on r s t v (fed A parsed m k (i + 1) (drop (i + 1) bs)) ≡ fed A parsed m k i (drop i bs) (contents c.loop-place.sheet) c.loop-place.text c.loop-place.work) c.in_ok-feed_byte.was more ∙ now.0,
      c.feed_byte.ensures.keeps.0 ∙ now.1,
      c.feed_byte.ensures.keeps.1 ∙ now.2,
    )

pub returns-in_err-feed_byte : goal.returns-in_err-feed_byte
returns-in_err-feed_byte g c =
    let A = g.S.Kind.Letter.alphabet in
    let parsed = g.S.Kind.Printable.parsed in
    let m = g.S.Automaton.model c.args.sheet.now.automaton in
    let k = c.args.sheet.now.k in
    let bs = c.args.trace.now in
    let i = c.loop-place.place in
    let now = c.loop-place.invariant in
    let s = contents c.feed_byte.new.sheet in
    let t = c.feed_byte.new.text in
    let v = c.feed_byte.new.work in
    let was = c.in_err-feed_byte.was in
    let p = err_from_is_err_and c.from_residual.result c.from_residual.ensures.1 in
    let more = fed-more A parsed m k bs i (contents c.loop-place.sheet) s c.loop-place.text t c.loop-place.work v c.feed_byte.result _ _ c.loop-place-test.true (ap g.S.Automaton.model now.2) now.1 c.feed_byte.ensures.fed_whole in
    let whole : fed_as c.from_residual.result s t v ≡ fed A parsed m k 0 bs (contents c.args.sheet.now) c.args.text.now c.args.work.now =
    ap (λ r. fed_as r s t v) (p.1 ∙ ap Err p.2)
    ∙ subst (λ r. go_on r s t v (fed A parsed m k (i + 1) (drop (i + 1) bs)) ≡ fed A parsed m k i (drop i bs) (contents c.loop-place.sheet) c.loop-place.text c.loop-place.work) was more
    ∙ now.0 in
    record {
      fed = fed_cut A parsed m k bs 0 (contents c.args.sheet.now) s c.args.text.now t c.args.work.now v c.from_residual.result whole;
      fed_whole = whole;
      keeps = (c.feed_byte.ensures.keeps.0 ∙ now.1, c.feed_byte.ensures.keeps.1 ∙ now.2);
    }

pub returns : goal.returns
returns g c =
    let A = g.S.Kind.Letter.alphabet in
    let parsed = g.S.Kind.Printable.parsed in
    let m = g.S.Automaton.model c.args.sheet.now.automaton in
    let k = c.args.sheet.now.k in
    let bs = c.args.trace.now in
    let now = c.loop-place.invariant in
    let s = contents c.loop-place.sheet in
    let t = c.loop-place.text in
    let v = c.loop-place.work in
    let whole : fed_as (Ok tt) s t v ≡ fed A parsed m k 0 bs (contents c.args.sheet.now) c.args.text.now c.args.work.now =
    fed-all A parsed m k bs c.loop-place.place s t v (omega (arith, c.loop-place-test.false)) ∙ now.0 in
    record {
      fed = fed_cut A parsed m k bs 0 (contents c.args.sheet.now) s c.args.text.now t c.args.work.now v (Ok tt) whole;
      fed_whole = whole;
      keeps = (now.1, now.2);
    }
