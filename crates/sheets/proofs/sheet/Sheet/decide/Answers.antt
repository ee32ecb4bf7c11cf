use Rattle.std.proofs.Common.{◌≡◌, true, length, is_some, sym, ap, ◌∙◌, subst, arith}
use Rattle.models.specs.Automaton.{walk, run}
use Rattle.joins.specs.Ways.{Short, added}
use Rattle.joins.proofs.Writings.{fit_short}
use Rattle.sheetlaw.specs.Calls.{passes}
use Rattle.sheets.specs.Stages.{shown}
use Rattle.sheets.specs.Views.{contents}
use Rattle.sheets.proofs.Planning.{length-shown, plan_wait, plan_long, plan_keep}
use Rattle.sheets.proofs.sheet.Sheet.decide.Goals as goal

pub returns-then-window-self-clause-plan : goal.returns-then-window-self-clause-plan
returns-then-window-self-clause-plan g c =
    let A = g.S.Kind.Letter.alphabet in
    let s = c.args.self.now in
    let m = g.S.Automaton.model s.automaton in
    let v = shown c.window-window.result in
    let long = length-shown c.window-window.result in
    plan_wait A m s.k c.args.room (contents s) c.args.letter v c.window-window.ensures.letters (omega arith) (omega arith)

pub added-appended-requires : goal.added-appended-requires
added-appended-requires g c =
    let A = g.S.Kind.Letter.alphabet in
    let s = c.args.self.now in
    let m = g.S.Automaton.model s.automaton in
    let v = shown c.window-window.result in
    let long = length-shown c.window-window.result in
    let few = (g.S.Automaton.lawful s.automaton).few in
    let fits = c.window-window.result.fits in
    subst (λ i. Short i c.in-Some.way) long
    (fit_short A v c.in-Some.way c.in-Some.ensures.row.1 (let most = c.in-Some.ensures.row.2 in omega arith))

pub returns-then-end-room-clause-plan : goal.returns-then-end-room-clause-plan
returns-then-end-room-clause-plan g c =
    let A = g.S.Kind.Letter.alphabet in
    let s = c.args.self.now in
    let m = g.S.Automaton.model s.automaton in
    let v = shown c.window-window.result in
    let long = length-shown c.window-window.result in
    let whole : length v ≡ s.k = omega (arith, c.window-window.ensures.held.0, c.if-window-self.false) in
    let walked : c.walk.result ≡ run m v = c.walk.ensures ∙ ap (λ q. walk m.next q c.letters.result.now) c.first.ensures ∙ ap (run m) c.letters.ensures in
    let passing : passes m v ≡ true = ap is_some (sym walked) ∙ c.if-is_none.ensures in
    let long-is : c.added-appended.result ≡ added (length v) c.in-Some.way = c.added-appended.ensures ∙ ap (λ i. added i c.in-Some.way) (sym long) in
    plan_long A m s.k c.args.room (contents s) c.args.letter v c.window-window.ensures.letters (omega arith) whole passing c.in-Some.way c.in-Some.ensures.row c.added-appended.result long-is c.if-end-room.true

pub returns-clause-plan : goal.returns-clause-plan
returns-clause-plan g c =
    let A = g.S.Kind.Letter.alphabet in
    let s = c.args.self.now in
    let m = g.S.Automaton.model s.automaton in
    let v = shown c.window-window.result in
    let long = length-shown c.window-window.result in
    let whole : length v ≡ s.k = omega (arith, c.window-window.ensures.held.0, c.if-window-self.false) in
    let walked : c.walk.result ≡ run m v = c.walk.ensures ∙ ap (λ q. walk m.next q c.letters.result.now) c.first.ensures ∙ ap (run m) c.letters.ensures in
    let passing : passes m v ≡ true = ap is_some (sym walked) ∙ c.if-is_none.ensures in
    let long-is : c.added-appended.result ≡ added (length v) c.in-Some.way = c.added-appended.ensures ∙ ap (λ i. added i c.in-Some.way) (sym long) in
    plan_keep A m s.k c.args.room (contents s) c.args.letter v c.window-window.ensures.letters (omega arith) whole passing c.in-Some.way c.in-Some.ensures.row c.added-appended.result long-is c.if-end-room.false

pub overflow_add-end : goal.overflow_add-end
overflow_add-end g c =
    let A = g.S.Kind.Letter.alphabet in
    let s = c.args.self.now in
    let m = g.S.Automaton.model s.automaton in
    let v = shown c.window-window.result in
    let long = length-shown c.window-window.result in
    let few = (g.S.Automaton.lawful s.automaton).few in
    let fits = c.window-window.result.fits in
    let is = c.added-appended.ensures ∙ ap (λ i. added i c.in-Some.way) (sym long) in
    let most = c.in-Some.ensures.row.2 in
    let early = c.if-self-ge-MOST.false in
    let written = s.written in
    omega arith
