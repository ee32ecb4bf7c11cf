use Rattle.std.proofs.Common.{[], length}
use Rattle.files.specs.Lines.{items}
use Rattle.texts.specs.Texts.{reading}
use Rattle.stepping.specs.Steps.{events, steps}
use Rattle.stepping.specs.Outcomes.{concluded}
use Rattle.stepping.proofs.Admitting.{concluded_ok, concluded_err}
use Rattle.stepping.proofs.Telling.{told-followed, told-refused}
use Rattle.stepping.proofs.settings.step_under.Goals as goal

pub returns-in-Ok : goal.returns-in-Ok
returns-in-Ok g c =
    let A = g.S.Kind.Letter.alphabet in
    let M = g.S.Automaton.model in
    let reads = reading A g.S.Kind.Printable.parsed in
    let head = c.args.settings.heading in
    let bs = c.args.trace.now in
    let lines = c.args.lines.now in
    let t = c.args.text.now in
    let w = c.args.work.now in
    let m = M c.args.automaton in
    let s = c.in-Ok.sheet in
    let opened = c.in-Ok.ensures.opened in
    let through = c.step_through-all.ensures in
    let last = c.step_through-all.new in
    let fresh = opened.2 t in
    told-followed A g.S.Kind.Printable.printed M c.args.automaton c.args.settings.window t w (events reads bs) s opened.1 opened.0 last.sheet last.text through.keeps.0 through.keeps.1 (through.stands t [] fresh)
    head.kind head.patterns head.limit (length bs) c.states-states.result c.memory-memory.result c.args.page.now c.show.new.page c.show_settings.new.page last.page c.show_end.new.page last.work c.step_through-all.result c.close.result
    c.show.ensures c.states-states.ensures c.memory-memory.ensures c.show_settings.ensures (through.page t [] fresh) (through.taken t [] fresh) through.work (c.close.ensures.stands t _ last.text (through.stands t [] fresh)) c.show_end.ensures
    (concluded head.kind head.patterns head.limit lines.number (items lines.rest.now) (steps A t w m c.args.settings.window reads bs))
    (concluded_ok A head.kind head.patterns head.limit lines.number (items lines.rest.now) t w m c.args.settings.window reads bs c.in-Ok.ensures.judged)

pub returns-in-Err : goal.returns-in-Err
returns-in-Err g c =
    let A = g.S.Kind.Letter.alphabet in
    let reads = reading A g.S.Kind.Printable.parsed in
    let head = c.args.settings.heading in
    let bs = c.args.trace.now in
    let lines = c.args.lines.now in
    let t = c.args.text.now in
    let w = c.args.work.now in
    let m = g.S.Automaton.model c.args.automaton in
    told-refused A g.S.Kind.Printable.printed c.args.page.now c.show_refusal.new.page t w c.show_refusal.result c.show_refusal.ensures.answer c.in-Err.refusal c.show_refusal.ensures.page
    (concluded head.kind head.patterns head.limit lines.number (items lines.rest.now) (steps A t w m c.args.settings.window reads bs))
    (concluded_err A head.kind head.patterns head.limit lines.number (items lines.rest.now) t w m c.args.settings.window reads bs c.in-Err.refusal c.in-Err.ensures.judged)
