use Rattle.std.proofs.Common.{◌≡◌, ◌+◌, ◌≤◌, length, Ok, refl, arith, rules}
use Rattle.files.specs.Lines.{items}
use Rattle.letters.specs.Two.{two_alphabet, two_parsed}
use Rattle.letters.specs.Trends.{trend_alphabet, trend_parsed}
use Rattle.letters.specs.Seepages.{seepage_alphabet, seepage_parsed}
use Rattle.stations.specs.Stations.{headed}
use Rattle.stations.specs.declared.Kind.TheVariants.{Two, Trend, Seepage}
use Rattle.stepping.specs.Outcomes.{body}
use Rattle.stepping.proofs.Filing.{outcome_is, filed_two, filed_trend, filed_seepage, filed_as}
use Rattle.stepping.proofs.outcome.step_lines.Goals as goal

pub returns-in-Ok-Two : goal.returns-in-Ok-Two
returns-in-Ok-Two c =
    let n = length c.args.tables.now.records.now in
    let w = length c.args.tables.now.words.now in
    let work = c.args.work.now in
    let a = c.args.texts.now.two.now in
    let t = c.args.texts.now.trend.now in
    let q = c.args.texts.now.seepage.now in
    let bs = c.args.input.now in
    let lines = c.header.new.lines in
    let few : length bs ≤ 60000 = omega arith in
    let head : headed 1 (items bs) ≡ Ok (Two, (lines.number + 1, items lines.rest.now)) = search rules in
    let filed = filed_as (outcome_is n w work a t q bs Two (lines.number + 1) (items lines.rest.now) few head) (filed_two a t q (body Two two_alphabet two_parsed n w a work (lines.number + 1) (items lines.rest.now)) c.step_body.ensures) in
    record { page = filed.page; complete = filed.complete; two = filed.two; trend = filed.trend; seepage = filed.seepage; lent = (search rules); work = filed.work; law = filed.law; list = (search rules) }

pub returns-in-Ok-Trend : goal.returns-in-Ok-Trend
returns-in-Ok-Trend c =
    let n = length c.args.tables.now.records.now in
    let w = length c.args.tables.now.words.now in
    let work = c.args.work.now in
    let a = c.args.texts.now.two.now in
    let t = c.args.texts.now.trend.now in
    let q = c.args.texts.now.seepage.now in
    let bs = c.args.input.now in
    let lines = c.header.new.lines in
    let few : length bs ≤ 60000 = omega arith in
    let head : headed 1 (items bs) ≡ Ok (Trend, (lines.number + 1, items lines.rest.now)) = search rules in
    let filed = filed_as (outcome_is n w work a t q bs Trend (lines.number + 1) (items lines.rest.now) few head) (filed_trend a t q (body Trend trend_alphabet trend_parsed n w t work (lines.number + 1) (items lines.rest.now)) c.step_body-in-Ok-Trend.ensures) in
    record { page = filed.page; complete = filed.complete; two = filed.two; trend = filed.trend; seepage = filed.seepage; lent = (search rules); work = filed.work; law = filed.law; list = (search rules) }

pub returns-in-Ok-Seepage : goal.returns-in-Ok-Seepage
returns-in-Ok-Seepage c =
    let n = length c.args.tables.now.records.now in
    let w = length c.args.tables.now.words.now in
    let work = c.args.work.now in
    let a = c.args.texts.now.two.now in
    let t = c.args.texts.now.trend.now in
    let q = c.args.texts.now.seepage.now in
    let bs = c.args.input.now in
    let lines = c.header.new.lines in
    let few : length bs ≤ 60000 = omega arith in
    let head : headed 1 (items bs) ≡ Ok (Seepage, (lines.number + 1, items lines.rest.now)) = search rules in
    let filed = filed_as (outcome_is n w work a t q bs Seepage (lines.number + 1) (items lines.rest.now) few head) (filed_seepage a t q (body Seepage seepage_alphabet seepage_parsed n w q work (lines.number + 1) (items lines.rest.now)) c.step_body-in-Ok-Seepage.ensures) in
    record { page = filed.page; complete = filed.complete; two = filed.two; trend = filed.trend; seepage = filed.seepage; lent = (search rules); work = filed.work; law = filed.law; list = (search rules) }
