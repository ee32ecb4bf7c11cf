use Rattle.std.proofs.Common.{◌≡◌, ◌-◌, length, Some, sym, ap, ◌∙◌, subst, arith}
use Rattle.joinlaw.specs.Words.{letters}
use Rattle.joinlaw.specs.Bridges.{bridge, next_row}
use Rattle.joins.specs.Ways.{WayIs}
use Rattle.sheetlaw.specs.Step.{row_to}
use Rattle.sheetlaw.specs.NextRow.{row_of}
use Rattle.sheets.specs.Stages.{shown}
use Rattle.sheets.specs.Plans.{RowIs}
use Rattle.sheets.proofs.Planning.{length-shown, way_row, found_few}
use Rattle.sheets.proofs.sheet.Sheet.way_to.Goals as goal

pub find-requires : goal.find-requires
find-requires g c =
    let s = c.args.self.now in
    let a = ap length c.letters.ensures ∙ length-shown c.in-Some.last in
    let b = ap length c.letters-in-Some.ensures ∙ length-shown c.args.window.now in
    let held = c.in-Some.ensures.held s.k in
    let kept = s.kept in
    let whole = c.requires.whole in
    (omega arith, omega arith)

pub returns-in-Some : goal.returns-in-Some
returns-in-Some g c =
    let A = g.S.Kind.Letter.alphabet in
    let s = c.args.self.now in
    let m = g.S.Automaton.model s.automaton in
    let w = shown c.args.window.now in
    let u = shown c.in-Some.last in
    let long : s.k - 1 ≡ length w - 1 = ap (λ i. i - 1) (sym c.requires.whole ∙ sym (length-shown c.args.window.now)) in
    let v = c.letters.result.now in
    let r = c.letters-in-Some.result.now in
    let few = (g.S.Automaton.lawful s.automaton).few in
    let here : WayIs A m.count (length r) c.find.result (bridge A m (letters A) v r (s.k - 1)) =
    subst (λ a. WayIs A (g.S.Automaton.model a).count (length r) c.find.result (bridge A (g.S.Automaton.model a) (letters A) v r (s.k - 1))) c.over-search.ensures c.find.ensures in
    let found : WayIs A m.count (length w) c.find.result (next_row A m u w) =
    subst (λ z. WayIs A m.count (length z) c.find.result (next_row A m u z)) c.letters-in-Some.ensures
    (subst (λ z. WayIs A m.count (length r) c.find.result (next_row A m z r)) c.letters.ensures
    (subst (λ i. WayIs A m.count (length r) c.find.result (bridge A m (letters A) v r i)) (long ∙ ap (λ z. length z - 1) (sym c.letters-in-Some.ensures)) here)) in
    let latest : Some u ≡ _ = c.in-Some.ensures.window in
    record {
      row = subst (λ o. RowIs A w c.find.result (row_to (row_of A m) o w)) latest (way_row A m.count w c.find.result (next_row A m u w) few found);
      few = λ way is. let less = found_few A m.count w c.find.result (next_row A m u w) few found way is in omega arith;
    }
