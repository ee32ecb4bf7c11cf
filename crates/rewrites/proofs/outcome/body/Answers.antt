use Rattle.std.proofs.Common.{◌≡◌, ◌+◌, [], length, Ok, Err, refl, ap, ◌∙◌, subst}
use Rattle.std.proofs.lemmas.Result.{err_from_is_err_and}
use Rattle.files.specs.Lines.{items}
use Rattle.stations.specs.Stations.{ended}
use Rattle.listings.specs.Listings.{and_then}
use Rattle.rewritelaw.specs.Traces.{left_as}
use Rattle.rewritelaw.specs.Outcomes.{body}
use Rattle.rewrites.proofs.Agreeing.{told_body}
use Rattle.rewrites.proofs.Bodies.{body-from, body_unread}
use Rattle.rewrites.proofs.outcome.body.Goals as goal

pub returns-in_err-counts : goal.returns-in_err-counts
returns-in_err-counts g c =
    let n = length c.args.records.now in
    let w = length c.args.words.now in
    let t = c.rewrite_limited.new.text in
    let v = c.rewrite_limited.new.work in
    let all = body g.L.Letter.alphabet g.L.Printable.parsed n w c.args.text.now c.args.work.now (c.args.lines.now.number + 1) (items c.args.lines.now.rest.now) in
    let from = body-from g.L.Letter.alphabet g.L.Printable.parsed n w c.args.text.now c.args.work.now (c.args.lines.now.number + 1) (items c.args.lines.now.rest.now) c.read.result c.in_ok-preface.preface c.in_ok-preface.was c.read.new.lines.number c.read.new.lines.rest.now c.read.new.list (c.read.ensures.answer n w [] c.start-list.ensures) c.finish-listed.result c.finish-listed.ensures.means c.unwrap_or-window.result c.unwrap_or-window.ensures c.rewrite_limited.result t v c.rewrite_limited.ensures.left c.number.result c.number.ensures c.at_line.result c.at_line.ensures in
    let z = ended (c.read.new.lines.number + 1) (items c.read.new.lines.rest.now) in
    let p = err_from_is_err_and c.from_residual-in_err-counts.result c.from_residual-in_err-counts.ensures.1 in
    let left : left_as (c.from_residual-in_err-counts.result) t v ≡ all =
    ap (λ r. left_as r t v) (p.1 ∙ ap Err p.2)
    ∙ subst (λ o. left_as (and_then o (λ s. and_then z (λ _. Ok s))) t v ≡ all) c.in_err-counts.was (from z refl) in
    record { told = told_body g.L.Letter.alphabet g.L.Printable.parsed g.L.Printable.printed n w c.args.text.now c.args.work.now (c.args.lines.now.number + 1) (items c.args.lines.now.rest.now) (c.from_residual-in_err-counts.result) t v left; left = left }

pub returns-in_err-tail : goal.returns-in_err-tail
returns-in_err-tail g c =
    let n = length c.args.records.now in
    let w = length c.args.words.now in
    let t = c.rewrite_limited.new.text in
    let v = c.rewrite_limited.new.work in
    let all = body g.L.Letter.alphabet g.L.Printable.parsed n w c.args.text.now c.args.work.now (c.args.lines.now.number + 1) (items c.args.lines.now.rest.now) in
    let from = body-from g.L.Letter.alphabet g.L.Printable.parsed n w c.args.text.now c.args.work.now (c.args.lines.now.number + 1) (items c.args.lines.now.rest.now) c.read.result c.in_ok-preface.preface c.in_ok-preface.was c.read.new.lines.number c.read.new.lines.rest.now c.read.new.list (c.read.ensures.answer n w [] c.start-list.ensures) c.finish-listed.result c.finish-listed.ensures.means c.unwrap_or-window.result c.unwrap_or-window.ensures c.rewrite_limited.result t v c.rewrite_limited.ensures.left c.number.result c.number.ensures c.at_line.result c.at_line.ensures in
    let p = err_from_is_err_and c.from_residual-in_err-tail.result c.from_residual-in_err-tail.ensures.1 in
    let counts = subst (λ o. left_as (and_then o (λ s. and_then c.tail.result (λ _. Ok s))) t v ≡ all) c.in_ok-counts.was (from c.tail.result c.tail.ensures.answer) in
    let left : left_as (c.from_residual-in_err-tail.result) t v ≡ all =
    ap (λ r. left_as r t v) (p.1 ∙ ap Err p.2)
    ∙ subst (λ z. left_as (and_then z (λ _. Ok c.in_ok-counts.counts)) t v ≡ all) c.in_err-tail.was counts in
    record { told = told_body g.L.Letter.alphabet g.L.Printable.parsed g.L.Printable.printed n w c.args.text.now c.args.work.now (c.args.lines.now.number + 1) (items c.args.lines.now.rest.now) (c.from_residual-in_err-tail.result) t v left; left = left }

pub returns : goal.returns
returns g c =
    let n = length c.args.records.now in
    let w = length c.args.words.now in
    let t = c.rewrite_limited.new.text in
    let v = c.rewrite_limited.new.work in
    let all = body g.L.Letter.alphabet g.L.Printable.parsed n w c.args.text.now c.args.work.now (c.args.lines.now.number + 1) (items c.args.lines.now.rest.now) in
    let from = body-from g.L.Letter.alphabet g.L.Printable.parsed n w c.args.text.now c.args.work.now (c.args.lines.now.number + 1) (items c.args.lines.now.rest.now) c.read.result c.in_ok-preface.preface c.in_ok-preface.was c.read.new.lines.number c.read.new.lines.rest.now c.read.new.list (c.read.ensures.answer n w [] c.start-list.ensures) c.finish-listed.result c.finish-listed.ensures.means c.unwrap_or-window.result c.unwrap_or-window.ensures c.rewrite_limited.result t v c.rewrite_limited.ensures.left c.number.result c.number.ensures c.at_line.result c.at_line.ensures in
    let counts = subst (λ o. left_as (and_then o (λ s. and_then c.tail.result (λ _. Ok s))) t v ≡ all) c.in_ok-counts.was (from c.tail.result c.tail.ensures.answer) in
    let left : left_as (Ok c.in_ok-counts.counts) t v ≡ all =
    subst (λ z. left_as (and_then z (λ _. Ok c.in_ok-counts.counts)) t v ≡ all) c.in_ok-tail.was counts in
    record { told = told_body g.L.Letter.alphabet g.L.Printable.parsed g.L.Printable.printed n w c.args.text.now c.args.work.now (c.args.lines.now.number + 1) (items c.args.lines.now.rest.now) (Ok c.in_ok-counts.counts) t v left; left = left }

pub returns-in_err-preface : goal.returns-in_err-preface
returns-in_err-preface g c =
    let n = length c.args.records.now in
    let w = length c.args.words.now in
    let p = err_from_is_err_and c.from_residual.result c.from_residual.ensures.1 in
    let all = body g.L.Letter.alphabet g.L.Printable.parsed n w c.args.text.now c.args.work.now (c.args.lines.now.number + 1) (items c.args.lines.now.rest.now) in
    let left : left_as (c.from_residual.result) c.args.text.now c.args.work.now ≡ all =
    ap (λ r. left_as r c.args.text.now c.args.work.now) (p.1 ∙ ap Err p.2)
    ∙ body_unread g.L.Letter.alphabet g.L.Printable.parsed n w c.args.text.now c.args.work.now (c.args.lines.now.number + 1) (items c.args.lines.now.rest.now) c.read.result c.in_err-preface.field-0.0 c.in_err-preface.was c.read.new.lines.number c.read.new.lines.rest.now c.read.new.list (c.read.ensures.answer n w [] c.start-list.ensures) in
    record { told = told_body g.L.Letter.alphabet g.L.Printable.parsed g.L.Printable.printed n w c.args.text.now c.args.work.now (c.args.lines.now.number + 1) (items c.args.lines.now.rest.now) (c.from_residual.result) c.args.text.now c.args.work.now left; left = left }
