-- A string is stopped at one of its letters. Assumes nothing.
use Rattle.std.proofs.Common.{◌≡◌, ℕ, ◌+◌, ◌<◌, List, [], ◌∷◌, length, Some, None, refl, arith}
use Rattle.models.specs.Automaton.{Next, stops, stop_or, later}

pub stops-within : {K : Type 0} (next : Next K) (xs : List K) (q i : ℕ) → stops next q xs ≡ Some i → i < length xs
stops-within next [] q i e = let z : ◌≡◌ {A = ℕ} 0 1 = cc in absurd (omega arith)
stops-within next (x ∷ xs) q i e =
    elim (next q x) as (λ o. stop_or o (λ t. stops next t xs) ≡ Some i → i < length (x ∷ xs)) [
      | Some t ↦ elim (stops next t xs) as (λ p. stops next t xs ≡ p → later p ≡ Some i → i < length (x ∷ xs)) [
        | Some j ↦ λ h r. let same : j + 1 ≡ i = cc in let lt = stops-within next xs t j h in omega arith
        | None ↦ λ h r. let z : ◌≡◌ {A = ℕ} 0 1 = cc in absurd (omega arith)
      ] refl
      | None ↦ λ r. let same : 0 ≡ i = cc in omega arith
    ] e
