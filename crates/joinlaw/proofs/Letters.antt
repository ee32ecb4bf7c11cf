-- The letters of an alphabet, by number: ascending, and none is missing. Assumes nothing.
use Rattle.std.proofs.Common.{◌≡◌, ℕ, zero, suc, ◌<◌, ◌≤◌, List, [], ◌∷◌, ◌++◌, Some, None, Option, sym, refl, ap, ◌∙◌, subst, ⊎_elim, arith}
use mathlib.Core.List.Memᴰ
use mathlib.Core.List.{Memᴰ}
use Rattle.std.specs.List.{AllByRecursion}
use Rattle.std.proofs.ByRecursion.{All-push, All-weaker}
use Rattle.std.proofs.lemmas.Bool.{cases_lt}
use Rattle.models.specs.Alphabet.{Alphabet, Numbered, Bears}
use Rattle.joinlaw.specs.Words.{letters, letters_below, listed, Ascending, Over}

ascending_push : {K : Type 0} (number : K → ℕ) (x : K) (xs : List K) → Ascending number xs → AllByRecursion (λ y. number y < number x) xs → Ascending number (xs ++ (x ∷ []))
ascending_push number x [] a h = (tt, tt)
ascending_push number x (y ∷ xs) a h = (All-push (λ z. number y < number z) xs x a.0 h.0, ascending_push number x xs a.1 h.1)

module _ {K : Type 0} (A : Alphabet K) (numbered : Numbered A) where
  record Below (n : ℕ) (xs : List K) : Type 0 where
    ascending : Ascending A.number xs
    low : AllByRecursion (λ y. A.number y < n) xs

  below_more : (n : ℕ) (xs : List K) (o : Option K) → Bears A.number n o → Below n xs → Below (suc n) (xs ++ listed o)
  below_more n xs (Some x) e b = record {
    ascending = ascending_push A.number x xs b.ascending (All-weaker (λ y. A.number y < n) (λ y. A.number y < A.number x) (λ y h. omega arith) xs b.low);
    low = All-push (λ y. A.number y < suc n) xs x (All-weaker (λ y. A.number y < n) (λ y. A.number y < suc n) (λ y h. omega arith) xs b.low) (omega arith);
  }
  below_more n xs None e b = absurd e

  letters_below_rise : (n : ℕ) → n ≤ A.size → Below n (letters_below A n)
  letters_below_rise zero h = record { ascending = tt; low = tt }
  letters_below_rise (suc n) h = below_more n (letters_below A n) (A.letter n) (numbered.held n (omega arith)) (letters_below_rise n (omega arith))

  letters_below_hold : (n : ℕ) (x : K) → A.number x < n → Memᴰ x (letters_below A n)
  letters_below_hold zero x h = absurd (omega arith)
  letters_below_hold (suc n) x h = ⊎_elim
      (λ lt. Memᴰ.append_left (listed (A.letter n)) (letters_below_hold n x lt))
      (λ ge.
      let is : A.letter n ≡ Some x = ap A.letter (let z : n ≡ A.number x = omega arith in z) ∙ numbered.given x in
      Memᴰ.append_right (letters_below A n) (subst (λ o. Memᴰ x (listed o)) (sym is) (Memᴰ.head refl)))
      (cases_lt (A.number x) n)

  pub letters_ascend : Ascending A.number (letters A)
  letters_ascend = (letters_below_rise A.size (omega arith)).ascending

  -- every string is over all letters
  pub over-letters : (z : List K) → Over (letters A) z
  over-letters [] = tt
  over-letters (x ∷ z) = (letters_below_hold A.size x (numbered.below x), over-letters z)
