-- Bytes that spell a context. Assumes nothing.
use Rattle.std.proofs.Common.{◌≡◌, ℕ, List, [], ◌∷◌, ◌++◌, Some, None, Option, ap}
use Rattle.texts.specs.Texts.{before, spelled}

-- one more byte that reads as a letter spells one letter more
pub spelled_push : {K : Type 0} (reads : ℕ → Option K) (xs : List ℕ) (b : ℕ) (x : K) → reads b ≡ Some x → spelled reads (xs ++ (b ∷ [])) ≡ spelled reads xs ++ (x ∷ [])
spelled_push {K} reads [] b x r = ap (λ (o : Option K). before o []) r
spelled_push {K} reads (c ∷ xs) b x r =
    elim (reads c) as (λ o. before o (spelled reads (xs ++ (b ∷ []))) ≡ before o (spelled reads xs) ++ (x ∷ [])) [
      | Some y ↦ ap (λ (l : List K). y ∷ l) (spelled_push reads xs b x r)
      | None ↦ spelled_push reads xs b x r
    ]
