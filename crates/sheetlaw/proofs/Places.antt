-- Windows at rising places of a string. Assumes nothing.
--
--   Within s n e ws   the windows ws stand in s at strictly rising places, one for each, from the place n on and below e
use Rattle.std.proofs.Common.{ℕ, ◌+◌, ◌<◌, ◌≤◌, List, [], ◌∷◌, ◌++◌, length, drop, refl, ap, ◌∙◌, append_assoc, arith}
use Rattle.std.proofs.lemmas.List.{drop-append-le, drop_at}
use Rattle.std.specs.List.{AllByRecursion}
use Rattle.sheetlaw.specs.Rivals.{At, Rises}
use Rattle.sheetlaw.proofs.Passing.{at_fits}

-- w stands where it was put
pub at-put : {K : Type 0} (a w r : List K) → At w (length a) ((a ++ w) ++ r)
at-put a w r = (r, ap (drop (length a)) (append_assoc a w r) ∙ drop_at a (w ++ r) (length a) refl)

-- and stays there as the string grows
pub at_more : {K : Type 0} (w s r : List K) (p : ℕ) → 0 < length w → At w p s → At w p (s ++ r)
at_more w s r p l (y, e) =
    let fits = at_fits w s p l (y, e) in
    (y ++ r, drop-append-le p s r (omega arith) ∙ ap (λ z. z ++ r) e ∙ append_assoc w y r)

abbrev pub Within : {K : Type 0} → List K → ℕ → ℕ → List (List K) → Type 0
Within s n e [] = Unit {0}
Within s n e (w ∷ ws) = (p : ℕ) × (n ≤ p) × (p < e) × At w p s × Within s (p + 1) e ws

module _ {K : Type 0} where
  -- the last of the windows, and the others before it
  pub rises_last : (s : List K) (n : ℕ) (ws : List (List K)) (w : List K) → Rises s n (ws ++ w ∷ [])
      → (p : ℕ) × (n ≤ p) × Within s n p ws × At w p s
  rises_last s n [] w (p, l, a, _) = (p, l, tt, a)
  rises_last s n (v ∷ ws) w (q, l, a, r) =
      let g = rises_last s (q + 1) ws w r in (g.0, omega (arith, g.1), (q, l, omega (arith, g.1), a, g.2), g.3)

  pub within-last : (s : List K) (n e : ℕ) (ws : List (List K)) (w : List K) → Within s n e (ws ++ w ∷ [])
      → (p : ℕ) × (n ≤ p) × (p < e) × Within s n p ws × At w p s
  within-last s n e [] w (p, l, b, a, _) = (p, l, b, tt, a)
  within-last s n e (v ∷ ws) w (q, l, b, a, r) =
      let g = within-last s (q + 1) e ws w r in (g.0, omega (arith, g.1), g.2, (q, l, omega (arith, g.1), a, g.3), g.4)

  -- and back again
  pub rises_push : (s : List K) (n p : ℕ) (ws : List (List K)) (w : List K) → n ≤ p → Within s n p ws → At w p s → Rises s n (ws ++ w ∷ [])
  rises_push s n p [] w l i a = (p, l, a, tt)
  rises_push s n p (v ∷ ws) w l (q, f, b, c, i) a = (q, f, c, rises_push s (q + 1) p ws w (omega arith) i a)

  pub within_push : (s : List K) (n e p : ℕ) (ws : List (List K)) (w : List K) → n ≤ p → p < e → Within s n p ws → At w p s → Within s n e (ws ++ w ∷ [])
  within_push s n e p [] w l b i a = (p, l, b, a, tt)
  within_push s n e p (v ∷ ws) w l b (q, f, d, c, i) a = (q, f, omega arith, c, within_push s (q + 1) e p ws w (omega arith) b i a)

  -- windows stay where they stand as the string grows
  pub within_more : (s r : List K) (n e : ℕ) (ws : List (List K)) → AllByRecursion (λ w. 0 < length w) ws → Within s n e ws → Within (s ++ r) n e ws
  within_more s r n e [] z i = tt
  within_more s r n e (w ∷ ws) z (p, l, b, a, i) = (p, l, b, at_more w s r p z.0 a, within_more s r (p + 1) e ws z.1 i)
