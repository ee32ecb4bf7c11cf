-- Walks through a state, and how a walk of as many letters as there are states is shortened. Assumes nothing.
use Rattle.std.proofs.Common.{◌≡◌, ℕ, zero, suc, ◌<◌, ◌≤◌, true, List, [], ◌∷◌, ◌++◌, length, take, drop, is_some, Some, None, Option, sym, refl, ap, ◌∙◌, subst, ⊎_elim, arith, take-append-drop}
use mathlib.Core.List.{Memᴰ}
use Rattle.std.proofs.ByRecursion.{All-append, All-take, All-drop}
use Rattle.std.proofs.lemmas.List.{append_assoc, length-append, length-take-le, length-drop}
use Rattle.std.proofs.lemmas.Bool.{cases_lt, false≢true}
use Rattle.models.specs.Automaton.{Next, Model, Lawful, walk, bind, Passes}
use Rattle.models.proofs.Walks.{walk-append}
use Rattle.joinlaw.specs.Bridges.{Fills}
use Rattle.joinlaw.proofs.Cycles.{repeats}

module _ {K : Type 0} (next : Next K) where
  -- the state after xs, and the way on from it
  pub record Via (q : ℕ) (xs ys : List K) : Type 0 where
    pub at : ℕ
    pub there : walk next q xs ≡ Some at
    pub on : Passes next at ys

  pub via : (q : ℕ) (xs ys : List K) → Passes next q (xs ++ ys) → Via q xs ys
  via q xs ys h = go (walk next q xs) refl (ap is_some (sym (walk-append next q xs ys)) ∙ h) where
    go : (o : Option ℕ) → walk next q xs ≡ o → is_some (bind o (λ t. walk next t ys)) ≡ true → Via q xs ys
    go (Some t) e r = record { at = t; there = e; on = r }
    go None e r = absurd (false≢true r)

  -- a walk goes on from the state that it has led to
  pub walk_on : (q t : ℕ) (xs ys : List K) → walk next q xs ≡ Some t → walk next q (xs ++ ys) ≡ walk next t ys
  walk_on q t xs ys e = walk-append next q xs ys ∙ ap (λ o. bind o (λ s. walk next s ys)) e

module _ {K : Type 0} (m : Model K) (lawful : Lawful m) where
  -- a walk stays among the states
  pub walk-stays : (xs : List K) (q t : ℕ) → q < m.count → walk m.next q xs ≡ Some t → t < m.count
  walk-stays [] q t h e = let same : q ≡ t = cc in omega arith
  walk-stays (x ∷ xs) q t h e =
      elim (m.next q x) as (λ o. m.next q x ≡ o → bind o (λ s. walk m.next s xs) ≡ Some t → t < m.count) [
        | Some s ↦ λ p r. walk-stays xs s t (lawful.stays q x s p) r
        | None ↦ λ p r. let z : ◌≡◌ {A = ℕ} 0 1 = cc in absurd (omega arith)
      ] refl e

abbrev got : Option ℕ → ℕ
got (Some t) = t
got None = 0

module _ {K : Type 0} (m : Model K) (lawful : Lawful m) (fill : List K) (q : ℕ) (v : List K) (among : q < m.count) where
  split : (z : List K) (i : ℕ) → z ++ v ≡ take i z ++ (drop i z ++ v)
  split z i = ap (λ w. w ++ v) (sym (take-append-drop i z)) ∙ append_assoc (take i z) (drop i z) v

  record Shorter (z : List K) : Type 0 where
    string : List K
    short : length string < length z
    fills : Fills m fill q v string

  -- a state that is met twice lets the letters between be left out
  left_out : (z : List K) → Fills m fill q v z → (i j s : ℕ) → i < j → j ≤ length z → walk m.next q (take i z) ≡ Some s → walk m.next q (take j z) ≡ Some s → Shorter z
  left_out z f i j s lt le a b =
      let on : walk m.next q (z ++ v) ≡ walk m.next s (drop j z ++ v) = ap (walk m.next q) (split z j) ∙ walk_on m.next q s (take j z) (drop j z ++ v) b in
      let off : walk m.next q ((take i z ++ drop j z) ++ v) ≡ walk m.next s (drop j z ++ v) = ap (walk m.next q) (append_assoc (take i z) (drop j z) v) ∙ walk_on m.next q s (take i z) (drop j z ++ v) a in
      let all = length-append (take i z) (drop j z) in
      let front = length-take-le i z (omega arith) in
      let back = length-drop j z in
      record {
        string = take i z ++ drop j z;
        short = omega arith;
        fills = (
          All-append (λ x. Memᴰ x fill) (take i z) (drop j z) (All-take (λ x. Memᴰ x fill) i z f.0) (All-drop (λ x. Memᴰ x fill) j z f.0),
          ap is_some (off ∙ sym on) ∙ f.1,
        );
      }

  way : (z : List K) → Fills m fill q v z → (i : ℕ) → Via m.next q (take i z) (drop i z ++ v)
  way z f i = via m.next q (take i z) (drop i z ++ v) (subst (Passes m.next q) (split z i) f.1)

  shortened : (z : List K) → Fills m fill q v z → m.count ≤ length z → Shorter z
  shortened z f long =
      let is : (i : ℕ) → got (walk m.next q (take i z)) ≡ (way z f i).at = λ i. ap got (way z f i).there in
      let r = repeats m.count (λ i. got (walk m.next q (take i z))) (λ i h. let e = is i in let s = walk-stays m lawful (take i z) q (way z f i).at among (way z f i).there in omega arith) in
      let le = r.within in
      left_out z f r.early r.late (way z f r.late).at r.rises (omega arith)
      ((way z f r.early).there ∙ ap Some (sym (is r.early) ∙ r.same ∙ is r.late))
      (way z f r.late).there

  pub record Short : Type 0 where
    pub string : List K
    pub few : length string < m.count
    pub fills : Fills m fill q v string

  within : (k : ℕ) (z : List K) → length z ≤ k → Fills m fill q v z → Short
  within zero z h f = record { string = z; few = omega arith; fills = f }
  within (suc k) z h f = ⊎_elim
      (λ lt. record { string = z; few = lt; fills = f })
      (λ ge. let s = shortened z f ge in let l = s.short in within k s.string (omega arith) s.fills)
      (cases_lt (length z) m.count)

  -- where a string fills, one of fewer letters than there are states does
  pub short_fills : (z : List K) → Fills m fill q v z → Short
  short_fills z f = within (length z) z (omega arith) f
