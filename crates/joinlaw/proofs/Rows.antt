-- What a bridge appends is the least row after which the text ends with v, and it fills in fewer letters than there
-- are states. Assumes nothing.
use Rattle.std.proofs.Common.{◌≡◌, ℕ, ◌+◌, ◌-◌, ◌<◌, ◌≤◌, true, List, ◌++◌, length, take, drop, is_some, Some, None, Option, sym, refl, ap, ◌∙◌, subst, inl, ⊎_elim, arith}
use Rattle.std.proofs.lemmas.List.{length-append, length-drop, take_at}
use Rattle.std.proofs.lemmas.Bool.{cases_lt}
use Rattle.models.specs.Alphabet.{Alphabet, Numbered}
use Rattle.models.specs.Automaton.{Model, Lawful, walk, run, Pass, last}
use Rattle.models.specs.Strings.{Ends, Leads, Least}
use Rattle.joinlaw.specs.Words.{Ascending, Over}
use Rattle.joinlaw.specs.Bridges.{merges, overlap, filling, Fills, Bridge, overlap_or, bridge_from, bridge, row}
use Rattle.joinlaw.proofs.Orders.{leads-same, leads_back}
use Rattle.joinlaw.proofs.Paths.{via, walk_on, walk-stays}
use Rattle.joinlaw.proofs.Fillings.{filling_least, filling-few, filling-none}
use Rattle.joinlaw.proofs.Ends.{Merged, Apart, ends_cases, merged_ends, apart-ends}
use Rattle.joinlaw.proofs.Overlaps.{merges-from, merges_true, Largest, ToldOverlap, told-overlap}

-- a row x after the text t: t goes on with x and then ends with v, at most so many letters of v are letters of t,
-- and those of x before v are filled in
abbrev pub Row : {K : Type 0} → Model K → List K → List K → List K → ℕ → List K → Type 0
Row m fill t v most x = Pass m (t ++ x) × Ends v (t ++ x) × (length v ≤ length x + most) × Over fill (take (length x - length v) x)

-- the row of a bridge is the least, or there is none
abbrev pub RowIs : {K : Type 0} → Alphabet K → Model K → List K → List K → List K → ℕ → Option (Bridge K) → Type 0
RowIs A m fill t v most (Some b) = Least A.number (Row m fill t v most) (row b v) × (length b.filling < m.count)
RowIs {K} A m fill t v most None = (x : List K) → Row m fill t v most x → ⊥

-- t can stand for u: it leads to the same state and ends with the same letters
pub record Stands {K : Type 0} (m : Model K) (t u : List K) (most : ℕ) : Type 0 where
  pub state : run m t ≡ run m u
  pub ends : (o : ℕ) → o ≤ most → last o t ≡ last o u

module _ {K : Type 0} (A : Alphabet K) (numbered : Numbered A) (m : Model K) (lawful : Lawful m) (fill : List K) (ascending : Ascending A.number fill)
    (t u v : List K) (most : ℕ) (within : most ≤ length v) (stands : Stands m t u most) where
  module _ (q : ℕ) (at : run m t ≡ Some q) where
    pass_on : (x : List K) → is_some (run m (t ++ x)) ≡ is_some (walk m.next q x)
    pass_on x = ap is_some (walk_on m.next m.start q t x at)

    -- what a row shows of its overlap, or of its filling
    row-merges : (x : List K) → Row m fill t v most x → (c : Merged t v x) → (c.by ≤ most) × (merges A m q u v c.by ≡ true)
    row-merges x r c =
        let all = c.all in
        let le : c.by ≤ most = (let h = r.2 in omega arith) in
        (le, merges-from A m q u v c.by (sym (stands.ends c.by le) ∙ c.same) (ap (λ y. is_some (walk m.next q y)) (sym c.rest) ∙ sym (pass_on x) ∙ r.0))

    row_fills : (x : List K) → Row m fill t v most x → (c : Apart v x) → Fills m fill q v c.filling
    row_fills x r c =
        let z = c.filling in
        let n = length-append z v in
        let l = ap length c.is in
        let front : take (length x - length v) x ≡ z = ap (take (length x - length v)) c.is ∙ take_at z v (length x - length v) (omega arith) in
        (subst (Over fill) front r.3, ap (λ y. is_some (walk m.next q y)) (sym c.is) ∙ sym (pass_on x) ∙ r.0)

    at-overlap : (o : ℕ) → Largest A m q u v most o → Least A.number (Row m fill t v most) (drop o v)
    at-overlap o big =
        let some = big.some in
        let le = big.within in
        let p = merges_true A m q u v numbered.apart o big.merged in
        let n = length-drop o v in
        let least : (x : List K) → Row m fill t v most x → Leads A.number (drop o v) x = λ x r. ⊎_elim
        (λ c.
        let k = c.all in
        let h = row-merges x r c in
        ⊎_elim
        (λ lt. absurd (big.above c.by lt h.0 h.1))
        (λ ge. ⊎_elim
        (λ lt. inl (omega arith))
        (λ eq. subst (Leads A.number (drop o v)) (ap (λ i. drop i v) (let e : o ≡ c.by = omega arith in e) ∙ sym c.rest) (leads-same A.number (drop o v)))
        (cases_lt c.by o))
        (cases_lt o c.by))
        (λ c. let l = ap length c.is in let k = length-append c.filling v in inl (omega arith))
        (ends_cases t v x r.1) in
        let none : length (drop o v) - length v ≡ 0 = omega arith in
        ((pass_on (drop o v) ∙ p.1, merged_ends t v o (stands.ends o le ∙ p.0), omega arith, subst (λ k. Over fill (take k (drop o v))) (sym none) tt), least)

    module _ (none : (p : ℕ) → 1 ≤ p → p ≤ most → merges A m q u v p ≡ true → ⊥) where
      no_merge : (x : List K) → Row m fill t v most x → Merged t v x → ⊥
      no_merge x r c = let h = row-merges x r c in none c.by c.some h.0 h.1

      at-filling : (z : List K) → Least A.number (Fills m fill q v) z → Least A.number (Row m fill t v most) (z ++ v)
      at-filling z best =
          let n = length-append z v in
          let least : (x : List K) → Row m fill t v most x → Leads A.number (z ++ v) x = λ x r. ⊎_elim
          (λ c. absurd (no_merge x r c))
          (λ c. subst (Leads A.number (z ++ v)) (sym c.is) (leads_back A.number z c.filling v (best.1 c.filling (row_fills x r c))))
          (ends_cases t v x r.1) in
          let front : take (length (z ++ v) - length v) (z ++ v) ≡ z = take_at z v (length (z ++ v) - length v) (omega arith) in
          ((pass_on (z ++ v) ∙ best.0.1, apart-ends t v z, omega arith, subst (Over fill) (sym front) best.0.0), least)

      at_none : ((z : List K) → Fills m fill q v z → ⊥) → (x : List K) → Row m fill t v most x → ⊥
      at_none no-fill x r = ⊎_elim (no_merge x r) (λ c. no-fill c.filling (row_fills x r c)) (ends_cases t v x r.1)

    among : q < m.count
    among = walk-stays m lawful t m.start q lawful.begins at

    is_choice : (o : Option ℕ) → ToldOverlap A m q u v most o → (f : Option (List K)) → filling m fill q v ≡ f → RowIs A m fill t v most (overlap_or o f)
    is_choice (Some o) big f e = (at-overlap o big, lawful.some)
    is_choice None none (Some z) e = (at-filling none z (filling_least A.number m fill ascending q v z e), filling-few A.number m fill ascending q v z e)
    is_choice None none None e = at_none none (filling-none A.number m fill ascending q v lawful among e)

  is_from : (o : Option ℕ) → run m t ≡ o → RowIs A m fill t v most (bridge_from A m fill u v most o)
  is_from (Some q) at = is_choice q at (overlap A m q u v most) (told-overlap A m q u v most) (filling m fill q v) refl
  is_from None at = λ x r.
      let w = via m.next m.start t x r.0 in
      let there = w.there in
      let z : ◌≡◌ {A = ℕ} 0 1 = cc in
      omega arith

  pub row_is : RowIs A m fill t v most (bridge A m fill u v most)
  unfolding bridge
  row_is = is_from (run m u) stands.state
