-- Laws of writing over the front of a list. Assumes nothing.
use Rattle.std.proofs.Common.{◌≡◌, ℕ, suc, ◌+◌, ◌<◌, ◌≤◌, min, List, [], ◌∷◌, ◌++◌, length, set, sym, refl, ap, ◌∙◌, arith}
use Rattle.std.proofs.lemmas.List.{length_push}
use Rattle.pages.specs.Pages.{over}

pub length_over : {X : Type 0} (xs ys : List X) → length (over xs ys) ≡ length ys
length_over [] ys = refl
length_over (x ∷ xs) [] = refl
length_over (x ∷ xs) (y ∷ ys) = ap suc (length_over xs ys)

over_push : {X : Type 0} (xs ys : List X) (x : X) → length xs < length ys → over (xs ++ (x ∷ [])) ys ≡ set (over xs ys) (length xs) x
over_push [] [] x h = absurd (omega arith)
over_push [] (y ∷ ys) x h = refl
over_push (z ∷ xs) [] x h = refl
over_push (z ∷ xs) (y ∷ ys) x h = ap (λ l. z ∷ l) (over_push xs ys x (omega arith))

over-full : {X : Type 0} (xs ys : List X) (x : X) → length ys ≤ length xs → over (xs ++ (x ∷ [])) ys ≡ over xs ys
over-full [] [] x h = refl
over-full [] (y ∷ ys) x h = absurd (omega arith)
over-full (z ∷ xs) [] x h = refl
over-full (z ∷ xs) (y ∷ ys) x h = ap (λ l. z ∷ l) (over-full xs ys x (omega arith))

-- one byte more, where there is room and where there is none
module _ (bs : List ℕ) (n b : ℕ) (xs ys : List ℕ) (h : bs ≡ over xs ys) (k : n ≡ min (length xs) (length ys)) where
  long : length bs ≡ length ys
  long = ap length h ∙ length_over xs ys

  pub push_room : n < length bs → (set bs n b ≡ over (xs ++ (b ∷ [])) ys) × (n + 1 ≡ min (length (xs ++ (b ∷ []))) (length ys))
  push_room l =
      let e = long in
      let at : n ≡ length xs = omega arith in
      (ap (λ l. set l n b) h ∙ ap (λ i. set (over xs ys) i b) at ∙ sym (over_push xs ys b (omega arith)), omega (arith, length_push xs b))

  pub push_full : length bs ≤ n → (bs ≡ over (xs ++ (b ∷ [])) ys) × (n ≡ min (length (xs ++ (b ∷ []))) (length ys))
  push_full l = let e = long in (h ∙ sym (over-full xs ys b (omega arith)), omega (arith, length_push xs b))
