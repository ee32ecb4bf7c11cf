use Rattle.std.proofs.Common.{◌+◌, Err, sym, refl, ap, ◌∙◌}
use Rattle.std.proofs.lemmas.Result.{err_from_is_err_and, IfOk-from_err}
use Rattle.files.specs.Lines.{items}
use Rattle.listings.specs.Listings.{and_then}
use Rattle.sheets.specs.Views.{contents}
use Rattle.stations.specs.Stations.{ended}
use Rattle.texts.specs.Texts.{reading, stray, unless_stray}
use Rattle.files.specs.Refusals.{at_line}
use Rattle.stepping.specs.Steps.{event, verdict}
use Rattle.stepping.specs.OnSheets.{Fresh}
use Rattle.stepping.proofs.Admitting.{admitted_is, opened_is}
use Rattle.stepping.proofs.settings.admit.Goals as goal

pub returns-in_err-sheet : goal.returns-in_err-sheet
returns-in_err-sheet g c =
    let reads = reading g.S.Kind.Letter.alphabet g.S.Kind.Printable.parsed in
    let bs = c.args.trace.now in
    let lines = c.args.lines.now in
    let z = unless_stray (stray (event reads) bs) tt in
    let b = at_line z c.number-line.result in
    let y = ended (lines.number + 1) (items lines.rest.now) in
    let whole = admitted_is (g.S.Automaton.model c.args.automaton) c.args.k reads bs lines.number (items lines.rest.now) c.open.result contents _ (λ s h. h.0) c.open.ensures c.number-line.result c.number-line.ensures c.at_line.result c.at_line.ensures z refl b refl y refl in
    let p = err_from_is_err_and c.from_residual.result c.from_residual.ensures.1 in
    record {
      judged = ap verdict (p.1 ∙ ap Err p.2) ∙ sym (ap (λ a. and_then a (λ _. and_then b (λ _. y))) c.in_err-sheet.was) ∙ whole;
      opened = IfOk-from_err c.from_residual.result (Fresh g.S.Kind.Letter.alphabet g.S.Automaton.model c.args.automaton c.args.k) c.from_residual.ensures.0;
    }

pub returns-in_err-at_line : goal.returns-in_err-at_line
returns-in_err-at_line g c =
    let reads = reading g.S.Kind.Letter.alphabet g.S.Kind.Printable.parsed in
    let bs = c.args.trace.now in
    let lines = c.args.lines.now in
    let y = ended (lines.number + 1) (items lines.rest.now) in
    let whole = admitted_is (g.S.Automaton.model c.args.automaton) c.args.k reads bs lines.number (items lines.rest.now) c.open.result contents _ (λ s h. h.0) c.open.ensures c.number-line.result c.number-line.ensures c.at_line.result c.at_line.ensures c.check_trace.result c.check_trace.ensures c.at_line-2.result c.at_line-2.ensures y refl in
    let p = err_from_is_err_and c.from_residual-in_err-at_line.result c.from_residual-in_err-at_line.ensures.1 in
    record {
      judged =
          ap verdict (p.1 ∙ ap Err p.2)
          ∙ sym (ap (λ b. and_then b (λ _. y)) c.in_err-at_line.was)
          ∙ sym (ap (λ a. and_then a (λ _. and_then c.at_line-2.result (λ _. y))) c.in_ok-sheet.was)
          ∙ whole;
      opened = IfOk-from_err c.from_residual-in_err-at_line.result (Fresh g.S.Kind.Letter.alphabet g.S.Automaton.model c.args.automaton c.args.k) c.from_residual-in_err-at_line.ensures.0;
    }

pub returns-in_err-tail : goal.returns-in_err-tail
returns-in_err-tail g c =
    let reads = reading g.S.Kind.Letter.alphabet g.S.Kind.Printable.parsed in
    let bs = c.args.trace.now in
    let lines = c.args.lines.now in
    let whole = admitted_is (g.S.Automaton.model c.args.automaton) c.args.k reads bs lines.number (items lines.rest.now) c.open.result contents _ (λ s h. h.0) c.open.ensures c.number-line.result c.number-line.ensures c.at_line.result c.at_line.ensures c.check_trace.result c.check_trace.ensures c.at_line-2.result c.at_line-2.ensures c.tail.result c.tail.ensures.answer in
    let p = err_from_is_err_and c.from_residual-in_err-tail.result c.from_residual-in_err-tail.ensures.1 in
    record {
      judged =
          ap verdict (p.1 ∙ ap Err p.2)
          ∙ sym c.in_err-tail.was
          ∙ sym (ap (λ b. and_then b (λ _. c.tail.result)) c.in_ok-at_line.was)
          ∙ sym (ap (λ a. and_then a (λ _. and_then c.at_line-2.result (λ _. c.tail.result))) c.in_ok-sheet.was)
          ∙ whole;
      opened = IfOk-from_err c.from_residual-in_err-tail.result (Fresh g.S.Kind.Letter.alphabet g.S.Automaton.model c.args.automaton c.args.k) c.from_residual-in_err-tail.ensures.0;
    }

pub returns : goal.returns
returns g c =
    let reads = reading g.S.Kind.Letter.alphabet g.S.Kind.Printable.parsed in
    let bs = c.args.trace.now in
    let lines = c.args.lines.now in
    let whole = admitted_is (g.S.Automaton.model c.args.automaton) c.args.k reads bs lines.number (items lines.rest.now) c.open.result contents _ (λ s h. h.0) c.open.ensures c.number-line.result c.number-line.ensures c.at_line.result c.at_line.ensures c.check_trace.result c.check_trace.ensures c.at_line-2.result c.at_line-2.ensures c.tail.result c.tail.ensures.answer in
    let o = opened_is (g.S.Automaton.model c.args.automaton) c.args.k reads bs lines.number (items lines.rest.now) c.open.result contents _ (λ s h. h.0) c.open.ensures c.number-line.result c.at_line.result c.at_line.ensures c.in_ok-sheet.sheet c.in_ok-sheet.was in
    record {
      judged =
          sym c.in_ok-tail.was
          ∙ sym (ap (λ b. and_then b (λ _. c.tail.result)) c.in_ok-at_line.was)
          ∙ sym (ap (λ a. and_then a (λ _. and_then c.at_line-2.result (λ _. c.tail.result))) c.in_ok-sheet.was)
          ∙ whole;
      opened = (o.1, o.2, o.3);
    }
