-- The overlap is the largest that merges. Assumes nothing.
use Rattle.std.proofs.Common.{◌≡◌, ℕ, zero, suc, ◌<◌, ◌≤◌, Bool, true, false, cond, eqb, List, [], ◌∷◌, take, drop, Some, None, Option, sym, refl, ap, ◌∙◌, ⊎_elim, arith}
use Rattle.std.proofs.lemmas.Bool.{cases_lt, and_parts, and_from, eqb-true, eq-eqb, both_ways, false≢true}
use Rattle.models.specs.Alphabet.{Alphabet}
use Rattle.models.specs.Automaton.{Model, Passes, last}
use Rattle.joinlaw.specs.Bridges.{same, serves, merges, overlap}

module _ {K : Type 0} (number : K → ℕ) where
  pub same_itself : (xs : List K) → same number xs xs ≡ true
  same_itself [] = refl
  same_itself (x ∷ xs) = and_from (eqb (number x) (number x)) (same number xs xs) (eq-eqb (number x) (number x) refl) (same_itself xs)

  pub same_true : ((x y : K) → number x ≡ number y → x ≡ y) → (xs ys : List K) → same number xs ys ≡ true → xs ≡ ys
  same_true apart [] [] e = refl
  same_true apart [] (y ∷ ys) e = absurd (false≢true e)
  same_true apart (x ∷ xs) [] e = absurd (false≢true e)
  same_true apart (x ∷ xs) (y ∷ ys) e =
      let p = and_parts (eqb (number x) (number y)) (same number xs ys) e in
      ap (λ z. z ∷ xs) (apart x y (eqb-true (number x) (number y) p.0)) ∙ ap (λ zs. y ∷ zs) (same_true apart xs ys p.1)

module _ {K : Type 0} (A : Alphabet K) (m : Model K) (q : ℕ) (u v : List K) where
  pub merges-from : (o : ℕ) → last o u ≡ take o v → Passes m.next q (drop o v) → merges A m q u v o ≡ true
  merges-from o e p = and_from (same A.number (last o u) (take o v)) (serves m (drop o v) q) (ap (same A.number (last o u)) (sym e) ∙ same_itself A.number (last o u)) p

  pub merges_true : ((x y : K) → A.number x ≡ A.number y → x ≡ y) → (o : ℕ) → merges A m q u v o ≡ true → (last o u ≡ take o v) × Passes m.next q (drop o v)
  merges_true apart o e =
      let p = and_parts (same A.number (last o u) (take o v)) (serves m (drop o v) q) e in
      (same_true A.number apart (last o u) (take o v) p.0, p.1)

  pub record Largest (most o : ℕ) : Type 0 where
    pub some : 1 ≤ o
    pub within : o ≤ most
    pub merged : merges A m q u v o ≡ true
    pub above : (p : ℕ) → o < p → p ≤ most → merges A m q u v p ≡ true → ⊥

  abbrev pub ToldOverlap : ℕ → Option ℕ → Type 0
  ToldOverlap most (Some o) = Largest most o
  ToldOverlap most None = (p : ℕ) → 1 ≤ p → p ≤ most → merges A m q u v p ≡ true → ⊥

  told_less : (most : ℕ) → (merges A m q u v (suc most) ≡ false) → (o : Option ℕ) → ToldOverlap most o → ToldOverlap (suc most) o
  told_less most e (Some o) t = let w = t.within in record {
    some = t.some;
    within = omega arith;
    merged = t.merged;
    above = λ p lt le r. ⊎_elim (λ h. t.above p lt (omega arith) r) (λ h. both_ways (merges A m q u v (suc most)) e (ap (merges A m q u v) (let z : suc most ≡ p = omega arith in z) ∙ r)) (cases_lt p (suc most));
  }
  told_less most e None t = λ p some le r. ⊎_elim (λ h. t p some (omega arith) r) (λ h. both_ways (merges A m q u v (suc most)) e (ap (merges A m q u v) (let z : suc most ≡ p = omega arith in z) ∙ r)) (cases_lt p (suc most))

  told-turn : (most : ℕ) (b : Bool) → merges A m q u v (suc most) ≡ b → (o : Option ℕ) → ToldOverlap most o → ToldOverlap (suc most) (cond b (Some (suc most)) o)
  told-turn most true e o t = record { some = omega arith; within = omega arith; merged = e; above = λ p lt le r. omega arith }
  told-turn most false e o t = told_less most e o t

  pub told-overlap : (most : ℕ) → ToldOverlap most (overlap A m q u v most)
  told-overlap zero = λ p some le r. omega arith
  told-overlap (suc most) = told-turn most (merges A m q u v (suc most)) refl (overlap A m q u v most) (told-overlap most)
