-- The steps of the test for an overlap. Assumes nothing.
use Rattle.std.proofs.Common.{◌≡◌, ℕ, zero, suc, ◌-◌, ◌<◌, true, false, ◌&&◌, ◌==◌, eqb, List, [], ◌∷◌, length, take, drop, is_some, Some, refl, ap, ◌∙◌, arith}
use Rattle.std.proofs.lemmas.List.{take_rest}
use Rattle.std.proofs.lemmas.Bool.{and_right, cond-true, cond-false}
use Rattle.std.specs.List.{list_all, zip}
use Rattle.models.specs.Alphabet.{Alphabet}
use Rattle.models.specs.Automaton.{Model, walk, last}
use Rattle.joinlaw.specs.Bridges.{same, serves, merges, overlap}

module _ {K : Type 0} (number : K → ℕ) where
  pub same_length : (xs ys : List K) → (length xs ≡ length ys → ⊥) → same number xs ys ≡ false
  same_length [] [] ne = absurd (ne refl)
  same_length [] (y ∷ ys) ne = refl
  same_length (x ∷ xs) [] ne = refl
  same_length (x ∷ xs) (y ∷ ys) ne = and_right (eqb (number x) (number y)) (same number xs ys) (same_length xs ys (λ e. ne (ap suc e)))

  -- letter by letter
  pub same_zip : (xs ys : List K) → length xs ≡ length ys → list_all (λ (p : K × K). number p.0 == number p.1) (zip xs ys) ≡ same number xs ys
  same_zip [] [] e = refl
  same_zip [] (y ∷ ys) e = cc
  same_zip (x ∷ xs) [] e = cc
  same_zip (x ∷ xs) (y ∷ ys) e = ap (λ b. number x == number y && b) (same_zip xs ys (omega arith))

module _ {K : Type 0} (A : Alphabet K) (m : Model K) (q : ℕ) (u v : List K) where
  pub overlap-hit : (o : ℕ) → 0 < o → merges A m q u v o ≡ true → overlap A m q u v o ≡ Some o
  overlap-hit zero some e = absurd (omega arith)
  overlap-hit (suc o) some e = cond-true (merges A m q u v (suc o)) (Some (suc o)) (overlap A m q u v o) e

  pub overlap_miss : (o : ℕ) → 0 < o → merges A m q u v o ≡ false → overlap A m q u v o ≡ overlap A m q u v (o - 1)
  overlap_miss zero some e = absurd (omega arith)
  overlap_miss (suc o) some e = cond-false (merges A m q u v (suc o)) (Some (suc o)) (overlap A m q u v o) e ∙ ap (overlap A m q u v) (let z : o ≡ suc o - 1 = omega arith in z)

  -- the parts of the two strings, as slices are read
  pub same_parts : (o : ℕ) → same A.number (take (length u - (length u - o)) (drop (length u - o) u)) (take (o - 0) v) ≡ same A.number (last o u) (take o v)
  same_parts o = ap (λ w. same A.number w (take (o - 0) v)) (take_rest u (length u - o)) ∙ ap (λ k. same A.number (last o u) (take k v)) (let z : o - 0 ≡ o = omega arith in z)

  pub serves-rest : (o : ℕ) → is_some (walk m.next q (take (length v - o) (drop o v))) ≡ serves m (drop o v) q
  serves-rest o = ap (λ w. is_some (walk m.next q w)) (take_rest v o)
