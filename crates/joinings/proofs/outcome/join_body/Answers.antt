use Rattle.std.proofs.Common.{◌+◌, [], length, refl, ap, ◌∙◌, rules}
use Rattle.files.specs.Lines.{items}
use Rattle.texts.specs.Texts.{reading}
use Rattle.stations.specs.Stations.{ended}
use Rattle.listings.proofs.Bodies.{body-from}
use Rattle.joinings.specs.Findings.{said, settled}
use Rattle.joinings.specs.Reports.{answer_of}
use Rattle.joinings.proofs.Saying.{said_line, said_at}
use Rattle.joinings.proofs.outcome.join_body.Goals as goal

pub returns-in_err-finding : goal.returns-in_err-finding
returns-in_err-finding g c =
    let A = g.L.Letter.alphabet in
    let reads = reading A g.L.Printable.parsed in
    let n = length c.args.records.now in
    let w = length c.args.words.now in
    let judge = settled A reads (length c.args.letters.now) (length c.args.text.now) (length c.args.work.now) in
    let found = ap said_line c.at_line.ensures ∙ said_at c.settle.result c.number.result in
    let from = body-from A reads judge (answer_of c.args.kind A g.L.Printable.printed) n w (c.args.lines.now.number + 1) (items c.args.lines.now.rest.now) c.read.result c.in_ok-preface.preface c.in_ok-preface.was c.read.new.lines.number c.read.new.lines.rest.now c.read.new.list (c.read.ensures.answer n w [] c.start-list.ensures) c.finish-listed.result c.finish-listed.ensures.means c.finish-listed.ensures.taken (said c.settle.result) c.settle.ensures c.number.result c.number.ensures (said_line c.at_line.result) found in
    let whole = from (ended (c.read.new.lines.number + 1) (items c.read.new.lines.rest.now)) refl c.finish-listed.result.taken refl in
    search rules

pub returns-in_err-tail : goal.returns-in_err-tail
returns-in_err-tail g c =
    let A = g.L.Letter.alphabet in
    let reads = reading A g.L.Printable.parsed in
    let n = length c.args.records.now in
    let w = length c.args.words.now in
    let judge = settled A reads (length c.args.letters.now) (length c.args.text.now) (length c.args.work.now) in
    let found = ap said_line c.at_line.ensures ∙ said_at c.settle.result c.number.result in
    let from = body-from A reads judge (answer_of c.args.kind A g.L.Printable.printed) n w (c.args.lines.now.number + 1) (items c.args.lines.now.rest.now) c.read.result c.in_ok-preface.preface c.in_ok-preface.was c.read.new.lines.number c.read.new.lines.rest.now c.read.new.list (c.read.ensures.answer n w [] c.start-list.ensures) c.finish-listed.result c.finish-listed.ensures.means c.finish-listed.ensures.taken (said c.settle.result) c.settle.ensures c.number.result c.number.ensures (said_line c.at_line.result) found in
    let whole = from c.tail.result c.tail.ensures.answer c.finish-listed.result.taken refl in
    search rules

pub returns : goal.returns
returns g c =
    let A = g.L.Letter.alphabet in
    let reads = reading A g.L.Printable.parsed in
    let n = length c.args.records.now in
    let w = length c.args.words.now in
    let judge = settled A reads (length c.args.letters.now) (length c.args.text.now) (length c.args.work.now) in
    let found = ap said_line c.at_line.ensures ∙ said_at c.settle.result c.number.result in
    let from = body-from A reads judge (answer_of c.args.kind A g.L.Printable.printed) n w (c.args.lines.now.number + 1) (items c.args.lines.now.rest.now) c.read.result c.in_ok-preface.preface c.in_ok-preface.was c.read.new.lines.number c.read.new.lines.rest.now c.read.new.list (c.read.ensures.answer n w [] c.start-list.ensures) c.finish-listed.result c.finish-listed.ensures.means c.finish-listed.ensures.taken (said c.settle.result) c.settle.ensures c.number.result c.number.ensures (said_line c.at_line.result) found in
    let whole = from c.tail.result c.tail.ensures.answer c.patterns.result c.patterns.ensures in
    search rules
