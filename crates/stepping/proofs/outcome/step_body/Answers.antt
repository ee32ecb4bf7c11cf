use Rattle.std.proofs.Common.{◌+◌, [], length, subst}
use Rattle.files.specs.Lines.{items}
use Rattle.stepping.specs.Outcomes.{Told, body}
use Rattle.stepping.proofs.Telling.{told-refused}
use Rattle.stepping.proofs.Filing.{body-read, body_unread}
use Rattle.stepping.proofs.outcome.step_body.Goals as goal

pub returns-in-Ok : goal.returns-in-Ok
returns-in-Ok g c =
    let A = g.L.Letter.alphabet in
    let n = length c.args.records.now in
    let w = length c.args.words.now in
    let lines = c.args.lines.now in
    let last = c.step_limited.new in
    let whole = body-read A g.L.Printable.parsed c.args.kind n w c.args.text.now c.args.work.now (lines.number + 1) (items lines.rest.now) c.read.result c.read.new.lines.number c.read.new.lines.rest.now c.read.new.list (c.read.ensures.answer n w [] c.start-list.ensures)
    c.in-Ok.preface c.in-Ok.is c.finish-listed.result c.finish-listed.ensures.means c.finish-listed.ensures.taken c.patterns.result c.unwrap_or-window.result c.patterns.ensures c.unwrap_or-window.ensures in
    subst (Told A g.L.Printable.printed c.args.page.now last.page c.args.text.now last.text c.args.work.now last.work c.step_limited.result) whole c.step_limited.ensures

pub returns-in-Err : goal.returns-in-Err
returns-in-Err g c =
    let A = g.L.Letter.alphabet in
    let n = length c.args.records.now in
    let w = length c.args.words.now in
    let lines = c.args.lines.now in
    let parsed = g.L.Printable.parsed in
    told-refused A g.L.Printable.printed c.args.page.now c.show_refusal.new.page c.args.text.now c.args.work.now c.show_refusal.result c.show_refusal.ensures.answer c.in-Err.refusal c.show_refusal.ensures.page
    (body c.args.kind A parsed n w c.args.text.now c.args.work.now (lines.number + 1) (items lines.rest.now))
    (body_unread A parsed c.args.kind n w c.args.text.now c.args.work.now (lines.number + 1) (items lines.rest.now) c.read.result c.read.new.lines.number c.read.new.lines.rest.now c.read.new.list (c.read.ensures.answer n w [] c.start-list.ensures) c.in-Err.refusal c.in-Err.is)
