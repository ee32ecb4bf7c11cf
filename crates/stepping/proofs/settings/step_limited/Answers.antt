use Rattle.std.proofs.Common.{rules}
use Rattle.files.specs.Lines.{items}
use Rattle.models.specs.Automaton.{Model}
use Rattle.texts.specs.Texts.{reading}
use Rattle.listings.specs.declared.limits.Limited.{Limited}
use Rattle.listings.proofs.Limiting.{limited_ok, limited_err}
use Rattle.stepping.specs.Steps.{steps}
use Rattle.stepping.proofs.Telling.{told_unsettled, told_as}
use Rattle.stepping.proofs.settings.step_limited.Goals as goal

pub returns-in-Ok-Alone : goal.returns-in-Ok-Alone
returns-in-Ok-Alone g c =
    let A = g.P.Kind.Letter.alphabet in
    let head = c.args.settings.heading in
    let lines = c.args.lines.now in
    let go = λ (m : Model g.row.P-Kind.Denot). steps A c.args.text.now c.args.work.now m c.args.settings.window (reading A g.P.Kind.Printable.parsed) c.args.trace.now in
    told_as head.kind head.patterns head.limit lines.number (items lines.rest.now) (limited_ok g.P.Automaton.model A (g.P.Automaton.model c.args.automaton) head.limit go c.new.result c.new.ensures (Limited.Alone c.in-Ok-Alone.automaton) (search rules)) c.step_under.ensures

pub returns-in-Ok-Both : goal.returns-in-Ok-Both
returns-in-Ok-Both g c =
    let A = g.P.Kind.Letter.alphabet in
    let head = c.args.settings.heading in
    let lines = c.args.lines.now in
    let go = λ (m : Model g.row.P-Kind.Denot). steps A c.args.text.now c.args.work.now m c.args.settings.window (reading A g.P.Kind.Printable.parsed) c.args.trace.now in
    told_as head.kind head.patterns head.limit lines.number (items lines.rest.now) (limited_ok g.P.Automaton.model A (g.P.Automaton.model c.args.automaton) head.limit go c.new.result c.new.ensures (Limited.Both c.in-Ok-Both.pair) (search rules)) c.step_under-in-Ok-Both.ensures

pub returns-in-Err : goal.returns-in-Err
returns-in-Err g c =
    let A = g.P.Kind.Letter.alphabet in
    let head = c.args.settings.heading in
    let lines = c.args.lines.now in
    let go = λ (m : Model g.row.P-Kind.Denot). steps A c.args.text.now c.args.work.now m c.args.settings.window (reading A g.P.Kind.Printable.parsed) c.args.trace.now in
    told_unsettled A g.P.Kind.Printable.printed c.args.page.now c.show_refusal.new.page c.args.text.now c.args.work.now c.show_refusal.result c.show_refusal.ensures.answer
    head.kind head.patterns head.limit lines.number (items lines.rest.now) _ c.in-Err.fault (limited_err g.P.Automaton.model A (g.P.Automaton.model c.args.automaton) head.limit go c.new.result c.new.ensures c.in-Err.fault c.in-Err.is) c.number.result c.number.ensures c.show_refusal.ensures.page
