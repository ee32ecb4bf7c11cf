use Rattle.std.proofs.Common.{◌≡◌, ◌+◌, ◌≤◌, length, is_ok, Ok, sym, ap, ◌∙◌, arith, rules}
use Rattle.files.specs.Lines.{items}
use Rattle.pages.proofs.Writes.{wrote_is}
use Rattle.stations.specs.Stations.{headed}
use Rattle.stations.specs.declared.Kind.TheVariants.{Two, Trend, Seepage}
use Rattle.joinings.specs.Outcomes.{Tables, room, printed}
use Rattle.joinings.proofs.Heads.{outcome_is}
use Rattle.joinings.proofs.outcome.join_lines.Goals as goal

pub returns-in-Ok-Two : goal.returns-in-Ok-Two
returns-in-Ok-Two c =
    let t : Tables = record { records = length c.args.tables.now.records.now; words = length c.args.tables.now.words.now; two = room c.args.desks.now.two; trend = room c.args.desks.now.trend; seepage = room c.args.desks.now.seepage; work = length c.args.work.now } in
    let lines = c.header.new.lines in
    let few : length c.args.input.now ≤ 60000 = omega arith in
    let head : headed 1 (items c.args.input.now) ≡ Ok (Two, (lines.number + 1, items lines.rest.now)) = search rules in
    let is = sym (outcome_is t c.args.input.now Two (lines.number + 1) (items lines.rest.now) few head) in
    record {
      page = wrote_is _ (ap printed is) c.join_kind.ensures.page;
      joined = c.join_kind.ensures.joined ∙ ap (λ o. is_ok o) is;
      list = c.join_kind.ensures.list;
      desks = search rules;
    }

pub returns-in-Ok-Trend : goal.returns-in-Ok-Trend
returns-in-Ok-Trend c =
    let t : Tables = record { records = length c.args.tables.now.records.now; words = length c.args.tables.now.words.now; two = room c.args.desks.now.two; trend = room c.args.desks.now.trend; seepage = room c.args.desks.now.seepage; work = length c.args.work.now } in
    let lines = c.header.new.lines in
    let few : length c.args.input.now ≤ 60000 = omega arith in
    let head : headed 1 (items c.args.input.now) ≡ Ok (Trend, (lines.number + 1, items lines.rest.now)) = search rules in
    let is = sym (outcome_is t c.args.input.now Trend (lines.number + 1) (items lines.rest.now) few head) in
    record {
      page = wrote_is _ (ap printed is) c.join_kind-in-Ok-Trend.ensures.page;
      joined = c.join_kind-in-Ok-Trend.ensures.joined ∙ ap (λ o. is_ok o) is;
      list = c.join_kind-in-Ok-Trend.ensures.list;
      desks = search rules;
    }

pub returns-in-Ok-Seepage : goal.returns-in-Ok-Seepage
returns-in-Ok-Seepage c =
    let t : Tables = record { records = length c.args.tables.now.records.now; words = length c.args.tables.now.words.now; two = room c.args.desks.now.two; trend = room c.args.desks.now.trend; seepage = room c.args.desks.now.seepage; work = length c.args.work.now } in
    let lines = c.header.new.lines in
    let few : length c.args.input.now ≤ 60000 = omega arith in
    let head : headed 1 (items c.args.input.now) ≡ Ok (Seepage, (lines.number + 1, items lines.rest.now)) = search rules in
    let is = sym (outcome_is t c.args.input.now Seepage (lines.number + 1) (items lines.rest.now) few head) in
    record {
      page = wrote_is _ (ap printed is) c.join_kind-in-Ok-Seepage.ensures.page;
      joined = c.join_kind-in-Ok-Seepage.ensures.joined ∙ ap (λ o. is_ok o) is;
      list = c.join_kind-in-Ok-Seepage.ensures.list;
      desks = search rules;
    }
