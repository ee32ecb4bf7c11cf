use Rattle.std.proofs.Common.{◌≡◌, ◌<◌, length, Some, None, refl, sym, ap, ◌∙◌, arith}
use Rattle.models.specs.Automaton.{walk, run}
use Rattle.joinlaw.specs.Words.{letters}
use Rattle.joinlaw.specs.Bridges.{filled}
use Rattle.joinlaw.proofs.Letters.{letters_ascend}
use Rattle.joinlaw.proofs.Bridging.{bridge-stopped, bridge-overlap, bridge-filling, overlap-most}
use Rattle.joinlaw.proofs.Paths.{walk-stays}
use Rattle.joins.specs.Queue.{by}
use Rattle.joins.proofs.Spellings.{all_picked, found-filling, nothing-filling}
use Rattle.joins.proofs.Traces.{found-traced, numbers-few, length-spelling}
use Rattle.joins.proofs.search.Search.find.Goals as goal

pub returns-in_err-state : goal.returns-in_err-state
returns-in_err-state g c =
    let A = g.S.Kind.Letter.alphabet in
    let m = g.S.Automaton.model c.args.self.automaton.now in
    let u = c.args.left.now in
    let stop : run m u ≡ None = ap (λ s. walk m.next s u) (sym c.first.ensures) ∙ sym c.in_err-state.ensures in
    rw c.from_residual.ensures (bridge-stopped A m (letters A) u c.args.right.now c.args.most stop)

pub returns-in-Some : goal.returns-in-Some
returns-in-Some g c =
    let A = g.S.Kind.Letter.alphabet in
    let m = g.S.Automaton.model c.args.self.automaton.now in
    let u = c.args.left.now in
    let v = c.args.right.now in
    let at : run m u ≡ Some c.in_ok-state.state = ap (λ s. walk m.next s u) (sym c.first.ensures) ∙ sym c.in_ok-state.ensures in
    let e = bridge-overlap A m (letters A) u v c.args.most c.in_ok-state.state at c.in-Some.shared (sym c.in-Some.ensures) in
    let le = overlap-most A m (letters A) u v c.args.most c.in_ok-state.state c.in-Some.shared (sym c.in-Some.ensures) in
    let most = c.requires.1 in
    (e, omega arith, tt)

pub explore-requires : goal.explore-requires
explore-requires g c =
    let m = g.S.Automaton.model c.args.self.automaton.now in
    let u = c.args.left.now in
    let at : run m u ≡ Some c.in_ok-state.state = ap (λ s. walk m.next s u) (sym c.first.ensures) ∙ sym c.in_ok-state.ensures in
    let lawful = g.S.Automaton.lawful c.args.self.automaton.now in
    walk-stays m lawful u m.start c.in_ok-state.state lawful.begins at

pub returns-in_err-place : goal.returns-in_err-place
returns-in_err-place g c =
    let A = g.S.Kind.Letter.alphabet in
    let numbered = g.S.Kind.Letter.numbered in
    let m = g.S.Automaton.model c.args.self.automaton.now in
    let u = c.args.left.now in
    let v = c.args.right.now in
    let q = c.in_ok-state.state in
    let at : run m u ≡ Some q = ap (λ s. walk m.next s u) (sym c.first.ensures) ∙ sym c.in_ok-state.ensures in
    let lawful = g.S.Automaton.lawful c.args.self.automaton.now in
    let among = walk-stays m lawful u m.start q lawful.begins at in
    let e = nothing-filling A.number (letters A) A.letter (all_picked A numbered) m numbered.apart (letters_ascend A numbered) lawful v q among _ _ _ c.in_err-place.ensures.explored in
    rw c.from_residual-in_err-place.ensures (bridge-filling A m (letters A) u v c.args.most q at (sym c.in_default.ensures) ∙ ap filled e)

pub returns : goal.returns
returns g c =
    let A = g.S.Kind.Letter.alphabet in
    let numbered = g.S.Kind.Letter.numbered in
    let m = g.S.Automaton.model c.args.self.automaton.now in
    let u = c.args.left.now in
    let v = c.args.right.now in
    let q = c.in_ok-state.state in
    let p = by c.explore.new.self.parents.now in
    let l = by c.explore.new.self.letters.now in
    let place = c.in_ok-place.place in
    let at : run m u ≡ Some q = ap (λ s. walk m.next s u) (sym c.first.ensures) ∙ sym c.in_ok-state.ensures in
    let lawful = g.S.Automaton.lawful c.args.self.automaton.now in
    let among = walk-stays m lawful u m.start q lawful.begins at in
    let found = c.in_ok-place.ensures.explored in
    let e = found-filling A.number (letters A) A.letter (all_picked A numbered) m numbered.apart (letters_ascend A numbered) lawful v q among _ p l place found in
    let same = c.explore.ensures.same in
    let count : length c.explore.new.self.parents.now ≡ m.count = c.explore.new.self.long_parents ∙ ap (λ a. (g.S.Automaton.model a).count) same in
    let even : length c.explore.new.self.letters.now ≡ length c.explore.new.self.parents.now = c.explore.new.self.long_letters ∙ sym c.explore.new.self.long_parents in
    let within : place < m.count = c.in_ok-place.ensures.within place refl in
    let traced = found-traced A.letter m _ q _ p l place found in
    let few = numbers-few p l place in
    let long = length-spelling A.letter p l place traced in
    rw (c.to.ensures.tables.0, c.to.ensures.tables.1, c.to.ensures.tables.2, c.to.ensures.long) (
      bridge-filling A m (letters A) u v c.args.most q at (sym c.in_default.ensures) ∙ ap filled e,
      record { even = even; within = omega arith; few = omega arith; long = sym long; traced = traced },
      count,
    )
