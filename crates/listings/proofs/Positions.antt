-- The first byte that reads as nothing, as the library finds it. Assumes nothing.
use Rattle.std.proofs.Common.{◌≡◌, ℕ, ◌+◌, Bool, not, cond, List, [], ◌∷◌, is_some, Some, None, Option, sym, refl, ap, ◌∙◌, add-zero, zero-add, arith}
use Rattle.std.specs.List.{position, position_from}
use Rattle.std.proofs.lemmas.Iterator.Adapters.{position_from-zero}
use Rattle.models.specs.Automaton.{later}
use Rattle.texts.specs.Texts.{stray, stray_or}

-- i places further on
abbrev further : ℕ → Option ℕ → Option ℕ
further i (Some k) = Some (i + k)
further i None = None

further_later : (i : ℕ) (o : Option ℕ) → further (i + 1) o ≡ further i (later o)
further_later i (Some k) = let e : i + 1 + k ≡ i + (k + 1) = omega arith in ap Some e
further_later i None = refl

further_zero : (o : Option ℕ) → further 0 o ≡ o
further_zero (Some k) = ap Some (zero-add k)
further_zero None = refl

module _ {K : Type 0} (reads : ℕ → Option K) (none : ℕ → Bool) (each : (b : ℕ) → none b ≡ not (is_some (reads b))) where
  from : (i : ℕ) (bs : List ℕ) → position_from none i bs ≡ further i (stray reads bs)
  from i [] = refl
  from i (b ∷ bs) =
      let rest = from (i + 1) bs ∙ further_later i (stray reads bs) in
      ap (λ t. cond t (Some i) (position_from none (i + 1) bs)) (each b)
      ∙ elim (reads b) as (λ o. cond (not (is_some o)) (Some i) (position_from none (i + 1) bs) ≡ further i (stray_or o (stray reads bs))) [
        | Some x ↦ rest
        | None ↦ ap Some (sym (add-zero i))
      ]

  pub stray_position : (bs : List ℕ) → position none bs ≡ stray reads bs
  stray_position bs = position_from-zero none bs ∙ from 0 bs ∙ further_zero (stray reads bs)
