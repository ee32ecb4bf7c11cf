use Rattle.std.proofs.Common.{◌≡◌, Ok, Err, ap, ◌∙◌}
use Rattle.std.proofs.lemmas.Result.{err_from_is_err_and}
use Rattle.models.specs.Automaton.{Model}
use Rattle.rewritelaw.specs.Traces.{left_as, unless_refused, rewritten}
use Rattle.listings.specs.Listings.{limited}
use Rattle.listings.specs.declared.limits.Limited.{Limited}
use Rattle.listings.proofs.Limiting.{limited_ok, limited_err}
use Rattle.rewrites.proofs.Agreeing.{told_limited}
use Rattle.rewrites.proofs.settings.rewrite_limited.Goals as goal

pub returns-in_err-automaton : goal.returns-in_err-automaton
returns-in_err-automaton g c =
    let A = g.P.Kind.Letter.alphabet in
    let m = g.P.Automaton.model c.args.automaton in
    let t = c.args.text.now in
    let v = c.args.work.now in
    let r = c.from_residual.result in
    let go = λ (u : Model g.row.P-Kind.Denot). rewritten A g.P.Kind.Printable.parsed u c.args.k c.args.trace.now t v in
    let p = err_from_is_err_and r c.from_residual.ensures.1 in
    let left : left_as r t v ≡ unless_refused (limited m A c.args.limit Ok) t v go =
    ap (λ r. left_as r t v) (p.1 ∙ ap Err p.2)
    ∙ ap (λ o. unless_refused o t v go) (limited_err g.P.Automaton.model A m c.args.limit Ok c.new.result c.new.ensures c.in_err-automaton.field-0.0 c.in_err-automaton.was) in
    record { told = told_limited A g.P.Kind.Printable.parsed g.P.Kind.Printable.printed c.args.k c.args.trace.now t v r t v m c.args.limit left; left = left }

pub returns-in-Alone : goal.returns-in-Alone
returns-in-Alone g c =
    let A = g.P.Kind.Letter.alphabet in
    let m = g.P.Automaton.model c.args.automaton in
    let t = c.args.text.now in
    let v = c.args.work.now in
    let t' = c.rewrite.new.text in
    let v' = c.rewrite.new.work in
    let go = λ (u : Model g.row.P-Kind.Denot). rewritten A g.P.Kind.Printable.parsed u c.args.k c.args.trace.now t v in
    let left : left_as c.rewrite.result t' v' ≡ unless_refused (limited m A c.args.limit Ok) t v go =
    c.rewrite.ensures.left
    ∙ ap (λ o. unless_refused o t v go) (limited_ok g.P.Automaton.model A m c.args.limit Ok c.new.result c.new.ensures (Limited.Alone c.in-Alone.automaton) (c.in_ok-automaton.was ∙ ap Ok c.in-Alone.is)) in
    record { told = told_limited A g.P.Kind.Printable.parsed g.P.Kind.Printable.printed c.args.k c.args.trace.now t v c.rewrite.result t' v' m c.args.limit left; left = left }

pub returns-in-Both : goal.returns-in-Both
returns-in-Both g c =
    let A = g.P.Kind.Letter.alphabet in
    let m = g.P.Automaton.model c.args.automaton in
    let t = c.args.text.now in
    let v = c.args.work.now in
    let t' = c.rewrite-in-Both.new.text in
    let v' = c.rewrite-in-Both.new.work in
    let go = λ (u : Model g.row.P-Kind.Denot). rewritten A g.P.Kind.Printable.parsed u c.args.k c.args.trace.now t v in
    let left : left_as c.rewrite-in-Both.result t' v' ≡ unless_refused (limited m A c.args.limit Ok) t v go =
    c.rewrite-in-Both.ensures.left
    ∙ ap (λ o. unless_refused o t v go) (limited_ok g.P.Automaton.model A m c.args.limit Ok c.new.result c.new.ensures (Limited.Both c.in-Both.pair) (c.in_ok-automaton.was ∙ ap Ok c.in-Both.is)) in
    record { told = told_limited A g.P.Kind.Printable.parsed g.P.Kind.Printable.printed c.args.k c.args.trace.now t v c.rewrite-in-Both.result t' v' m c.args.limit left; left = left }
