use Rattle.std.proofs.Common.{◌≡◌, ℕ, ◌+◌, ◌-◌, ◌<◌, false, List, [], length, get_or, take, sym, ap, ◌∙◌, arith}
use Rattle.std.proofs.lemmas.List.{take_all}
use Rattle.listlaw.specs.Patterns.{Word, member, gather, fronts, with}
use Rattle.listlaw.proofs.Gathering.{with_old}
use Rattle.listlaw.proofs.States.{gather-more, gather_missing}
use Rattle.lists.specs.Names.{names}
use Rattle.lists.proofs.Spelling.{names-first, count, names-closed, place_of, child_state, child_none}
use Rattle.lists.proofs.Children.{trie}
use Rattle.lists.proofs.Entering.{none-known, front_long, front_push}
use Rattle.lists.proofs.tree.Tree.grown.Goals as goal

pub loop-k-init : goal.loop-k-init
loop-k-init c = (c.args.self.now.some, names-first c.args.self.now.records.now c.args.self.now.used, none-known c.args.self.now c.args.word.now)

pub returns-in_default : goal.returns-in_default
returns-in_default c =
    let ns = c.args.self.now.records.now in
    let u = c.args.self.now.used in
    let t = trie c.args.self.now in
    let w = c.args.word.now.letters.now in
    let k = c.loop-k.k in
    let i = c.loop-k.invariant in
    let d : ℕ = length w - 1 - k in
    let front = c.front-front.result.now in
    let long = front_long w front c.front-front.ensures in
    let lt : k + 1 < length w = omega arith in
    let new : member (names ns u) (take (k + 1) w) ≡ false = sym (ap (member (names ns u)) (front_push w front c.front-front.ensures k lt i.1)) ∙ child_none ns u t c.loop-k.under (get_or front k 0) i.0 c.in_default.ensures in
    let all : take (k + d + 1) w ≡ w = take_all (k + d + 1) w (omega arith) in
    omega (arith, gather_missing (names ns u) w (names-closed ns u t) k i.2 new d (omega arith), ap (λ (v : Word). length (gather (names ns u) (fronts v))) all, count ns u t)

pub loop-k-preserved : goal.loop-k-preserved
loop-k-preserved c =
    let ns = c.args.self.now.records.now in
    let u = c.args.self.now.used in
    let t = trie c.args.self.now in
    let w = c.args.word.now.letters.now in
    let k = c.loop-k.k in
    let i = c.loop-k.invariant in
    let h = c.in-Some.ensures in
    let front = c.front-front.result.now in
    let long = front_long w front c.front-front.ensures in
    let is : get_or (names ns u) c.in-Some.state [] ≡ take (k + 1) w = child_state ns u t c.loop-k.under (get_or front k 0) c.in-Some.state h ∙ front_push w front c.front-front.ensures k (omega arith) i.1 in (
      h.1,
      is,
      gather-more (names ns u) w (k + 1) (omega arith) ∙ ap (λ (l : List Word). with l (take (k + 1) w)) i.2 ∙ with_old (names ns u) (take (k + 1) w) (place_of ns u t c.in-Some.state h.1 (take (k + 1) w) is).0,
    )

pub returns : goal.returns
returns c =
    let ns = c.args.self.now.records.now in
    let u = c.args.self.now.used in
    let w = c.args.word.now.letters.now in
    let front = c.front-front.result.now in
    let long = front_long w front c.front-front.ensures in
    let all : take (c.loop-k.k + 1) w ≡ w = take_all (c.loop-k.k + 1) w (omega arith) in
    omega (arith, ap length c.loop-k.invariant.2, ap (λ (v : Word). length (gather (names ns u) (fronts v))) all, count ns u (trie c.args.self.now))
