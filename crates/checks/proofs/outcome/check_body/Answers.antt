use Rattle.std.proofs.Common.{◌+◌, [], length, refl, rules}
use Rattle.files.specs.Lines.{items}
use Rattle.stations.specs.Stations.{ended}
use Rattle.checks.proofs.Bodies.{body-from}
use Rattle.checks.proofs.outcome.check_body.Goals as goal

pub returns-in_err-finding : goal.returns-in_err-finding
returns-in_err-finding g c =
    let n = length c.args.records.now in
    let w = length c.args.words.now in
    let from = body-from g.L.Letter.alphabet g.L.Printable.parsed c.args.kind n w (c.args.lines.now.number + 1) (items c.args.lines.now.rest.now) c.read.result c.in_ok-preface.preface c.in_ok-preface.was c.read.new.lines.number c.read.new.lines.rest.now c.read.new.list (c.read.ensures.answer n w [] c.start-list.ensures) c.finish-listed.result c.finish-listed.ensures.means c.finish-listed.ensures.taken c.judge_limited.result c.judge_limited.ensures c.number.result c.number.ensures c.at_line.result c.at_line.ensures in
    let whole = from (ended (c.read.new.lines.number + 1) (items c.read.new.lines.rest.now)) refl c.finish-listed.result.taken refl in
    search rules

pub returns-in_err-tail : goal.returns-in_err-tail
returns-in_err-tail g c =
    let n = length c.args.records.now in
    let w = length c.args.words.now in
    let from = body-from g.L.Letter.alphabet g.L.Printable.parsed c.args.kind n w (c.args.lines.now.number + 1) (items c.args.lines.now.rest.now) c.read.result c.in_ok-preface.preface c.in_ok-preface.was c.read.new.lines.number c.read.new.lines.rest.now c.read.new.list (c.read.ensures.answer n w [] c.start-list.ensures) c.finish-listed.result c.finish-listed.ensures.means c.finish-listed.ensures.taken c.judge_limited.result c.judge_limited.ensures c.number.result c.number.ensures c.at_line.result c.at_line.ensures in
    let whole = from c.tail.result c.tail.ensures.answer c.finish-listed.result.taken refl in
    search rules

pub returns : goal.returns
returns g c =
    let n = length c.args.records.now in
    let w = length c.args.words.now in
    let from = body-from g.L.Letter.alphabet g.L.Printable.parsed c.args.kind n w (c.args.lines.now.number + 1) (items c.args.lines.now.rest.now) c.read.result c.in_ok-preface.preface c.in_ok-preface.was c.read.new.lines.number c.read.new.lines.rest.now c.read.new.list (c.read.ensures.answer n w [] c.start-list.ensures) c.finish-listed.result c.finish-listed.ensures.means c.finish-listed.ensures.taken c.judge_limited.result c.judge_limited.ensures c.number.result c.number.ensures c.at_line.result c.at_line.ensures in
    let whole = from c.tail.result c.tail.ensures.answer c.patterns.result c.patterns.ensures in
    search rules
