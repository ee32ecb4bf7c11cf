use Rattle.std.proofs.Common.{◌≡◌, Ok, Err, ap, ◌∙◌, subst}
use Rattle.std.proofs.lemmas.Result.{err_from_is_err_and}
use Rattle.sheets.specs.Views.{contents}
use Rattle.sheetlaw.specs.Step.{close}
use Rattle.stations.specs.Stations.{bind}
use Rattle.rewritelaw.specs.Traces.{left_as, rewritten}
use Rattle.rewrites.proofs.Agreeing.{told_rewritten}
use Rattle.rewrites.proofs.Running.{unopened, ran}
use Rattle.rewrites.proofs.settings.rewrite.Goals as goal

pub returns-in_err-sheet : goal.returns-in_err-sheet
returns-in_err-sheet g c =
    let p = err_from_is_err_and c.from_residual.result c.from_residual.ensures.1 in
    let A = g.S.Kind.Letter.alphabet in
    let parsed = g.S.Kind.Printable.parsed in
    let m = g.S.Automaton.model c.args.automaton in
    let t = c.args.text.now in
    let v = c.args.work.now in
    let r = c.from_residual.result in
    let left : left_as r t v ≡ rewritten A parsed m c.args.k c.args.trace.now t v =
    ap (λ r. left_as r t v) (p.1 ∙ ap Err p.2) ∙ unopened A parsed m c.args.k c.args.trace.now t v c.in_err-sheet.field-0.0 c.in_err-sheet.ensures in
    record { told = told_rewritten A parsed g.S.Kind.Printable.printed c.args.k c.args.trace.now t v r t v m left; left = left }

pub returns-in_err-feed : goal.returns-in_err-feed
returns-in_err-feed g c =
    let A = g.S.Kind.Letter.alphabet in
    let parsed = g.S.Kind.Printable.parsed in
    let m = g.S.Automaton.model c.args.automaton in
    let t = c.feed.new.text in
    let v = c.feed.new.work in
    let s = contents c.feed.new.sheet in
    let o = c.in_ok-sheet.ensures in
    let p = err_from_is_err_and c.from_residual-in_err-feed.result c.from_residual-in_err-feed.ensures.1 in
    let whole = ran A parsed m c.args.k c.args.trace.now c.args.text.now c.args.work.now (contents c.in_ok-sheet.sheet) s t v c.feed.result _ _ o.0 (ap g.S.Automaton.model o.2) o.1 c.feed.ensures.fed_whole in
    let r = c.from_residual-in_err-feed.result in
    let left : left_as r t v ≡ rewritten A parsed m c.args.k c.args.trace.now c.args.text.now c.args.work.now =
    ap (λ r. left_as r t v) (p.1 ∙ ap Err p.2)
    ∙ subst (λ r. left_as (bind r (λ _. Ok (close s))) t v ≡ rewritten A parsed m c.args.k c.args.trace.now c.args.text.now c.args.work.now) c.in_err-feed.was whole in
    record { told = told_rewritten A parsed g.S.Kind.Printable.printed c.args.k c.args.trace.now c.args.text.now c.args.work.now r t v m left; left = left }

pub returns : goal.returns
returns g c =
    let A = g.S.Kind.Letter.alphabet in
    let parsed = g.S.Kind.Printable.parsed in
    let m = g.S.Automaton.model c.args.automaton in
    let t = c.feed.new.text in
    let v = c.feed.new.work in
    let s = contents c.feed.new.sheet in
    let o = c.in_ok-sheet.ensures in
    let whole = ran A parsed m c.args.k c.args.trace.now c.args.text.now c.args.work.now (contents c.in_ok-sheet.sheet) s t v c.feed.result _ _ o.0 (ap g.S.Automaton.model o.2) o.1 c.feed.ensures.fed_whole in
    let left : left_as (Ok c.close.result) t v ≡ rewritten A parsed m c.args.k c.args.trace.now c.args.text.now c.args.work.now =
    ap (λ n. left_as (Ok n) t v) c.close.ensures.counts
    ∙ subst (λ r. left_as (bind r (λ _. Ok (close s))) t v ≡ rewritten A parsed m c.args.k c.args.trace.now c.args.text.now c.args.work.now) c.in_ok-feed.was whole in
    record { told = told_rewritten A parsed g.S.Kind.Printable.printed c.args.k c.args.trace.now c.args.text.now c.args.work.now (Ok c.close.result) t v m left; left = left }
