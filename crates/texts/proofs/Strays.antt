-- Laws of texts given as bytes. Assumes nothing.
use Rattle.std.specs.List.{position, position_from}
use Rattle.std.proofs.lemmas.Iterator.Adapters.{position_from-zero}
use Rattle.std.proofs.Common.{not, cond, Bool, ◌+◌, false, ◌≡◌, ℕ, zero, suc, ◌<◌, true, List, [], ◌∷◌, length, get_or, is_some, Some, None, Option, refl, ap, ◌∙◌, add-one, arith}
use Rattle.models.specs.Automaton.{Model, later, stop_or, stops}
use Rattle.texts.specs.Texts.{stray, stray_or, before, spelled, step_with, byte_next}

later-none : (o : Option ℕ) → later o ≡ None → o ≡ None
later-none (Some n) e = let z : ◌≡◌ {A = ℕ} 0 1 = cc in absurd (omega arith)
later-none None e = refl

-- a search that begins one place on finds its place one on
later-from : {K : Type 0} (test : K → Bool) (i : ℕ) (xs : List K) → position_from test (i + 1) xs ≡ later (position_from test i xs)
later-from test i [] = refl
later-from test i (x ∷ xs) =
    elim (test x) as (λ t. cond t (Some (i + 1)) (position_from test (i + 1 + 1) xs) ≡ later (cond t (Some i) (position_from test (i + 1) xs))) [ true ↦ refl | false ↦ later-from test (i + 1) xs ]

module _ {K : Type 0} (reads : ℕ → Option K) where
  abbrev none : ℕ → Bool
  none b = not (is_some (reads b))

  from-stray : (bs : List ℕ) → position_from none 0 bs ≡ stray reads bs
  from-stray [] = refl
  from-stray (b ∷ bs) =
      elim (reads b) as (λ o. cond (not (is_some o)) (Some 0) (position_from none (0 + 1) bs) ≡ stray_or o (stray reads bs)) [ Some x ↦ later-from none 0 bs ∙ ap later (from-stray bs) | None ↦ refl ]

  -- the stray byte is the first that reads as none
  pub stray-position : (bs : List ℕ) → position (λ b. not (is_some (reads b))) bs ≡ stray reads bs
  stray-position bs = position_from-zero none bs ∙ from-stray bs

  -- the first byte that reads as none is the stray one
  pub stray-here : (i : ℕ) (bs : List ℕ) → i < length bs → ((k : ℕ) → k < i → is_some (reads (get_or bs k 0)) ≡ true) → reads (get_or bs i 0) ≡ None → stray reads bs ≡ Some i
  stray-here i [] h front here = absurd (omega arith)
  stray-here zero (b ∷ bs) h front here = ap (λ o. stray_or o (stray reads bs)) here
  stray-here (suc i) (b ∷ bs) h front here =
      elim (reads b) as (λ o. is_some o ≡ true → stray_or o (stray reads bs) ≡ Some (suc i)) [
        | Some n ↦ λ _. ap later (stray-here i bs (omega arith) (λ k l. front (suc k) (omega arith)) here) ∙ ap Some (add-one i)
        | None ↦ λ e. let z : ◌≡◌ {A = ℕ} 0 1 = cc in absurd (omega arith)
      ] (front 0 (omega arith))

  pub stray-none : (bs : List ℕ) → ((k : ℕ) → k < length bs → is_some (reads (get_or bs k 0)) ≡ true) → stray reads bs ≡ None
  stray-none [] all = refl
  stray-none (b ∷ bs) all =
      elim (reads b) as (λ o. is_some o ≡ true → stray_or o (stray reads bs) ≡ None) [
        | Some n ↦ λ _. ap later (stray-none bs (λ k l. all (suc k) (omega arith)))
        | None ↦ λ e. let z : ◌≡◌ {A = ℕ} 0 1 = cc in absurd (omega arith)
      ] (all 0 (omega arith))

  -- where no byte is stray, the walk over the bytes is the walk over their letters
  pub stops-spelled : (m : Model K) (q : ℕ) (bs : List ℕ) → stray reads bs ≡ None → stops (byte_next m reads) q bs ≡ stops m.next q (spelled reads bs)
  stops-spelled m q [] e = refl
  stops-spelled m q (b ∷ bs) e =
      elim (reads b) as (λ o. stray_or o (stray reads bs) ≡ None → stop_or (step_with (m.next q) o) (λ t. stops (byte_next m reads) t bs) ≡ stops m.next q (before o (spelled reads bs))) [
        | Some x ↦ λ h.
            let rest = later-none (stray reads bs) h in
            elim (m.next q x) as (λ o. stop_or o (λ t. stops (byte_next m reads) t bs) ≡ stop_or o (λ t. stops m.next t (spelled reads bs))) [ Some t ↦ ap later (stops-spelled m t bs rest) | None ↦ refl ]
        | None ↦ λ h. let z : ◌≡◌ {A = ℕ} 0 1 = cc in absurd (omega arith)
      ] e
