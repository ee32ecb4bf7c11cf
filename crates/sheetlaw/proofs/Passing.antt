-- Passing strings: their parts, and what goes on after a window. Assumes nothing.
use Rattle.std.proofs.Common.{◌≡◌, ℕ, ◌+◌, ◌-◌, ◌<◌, ◌≤◌, List, [], ◌++◌, length, take, drop, is_some, sym, refl, ap, ◌∙◌, append-nil, arith, length-append, length-drop, take-append-drop, length-take}
use Rattle.std.proofs.lemmas.List.{drop-drop, drop_at, drop-take, take-take, take_at}
use Rattle.models.specs.Automaton.{Model, Lawful, Pass, walk, bind, run, last}
use Rattle.models.proofs.Walks.{walk-append}
use Rattle.sheetlaw.specs.Rivals.{At}

-- where w stands, s is long enough
pub at_fits : {K : Type 0} (w s : List K) (p : ℕ) → 0 < length w → At w p s → p + length w ≤ length s
at_fits w s p l (y, e) = omega (arith, simp (length-drop, length-append) at (ap length e))

pub at_take : {K : Type 0} (w s : List K) (p : ℕ) → At w p s → take (length w) (drop p s) ≡ w
at_take w s p (y, e) = ap (take (length w)) e ∙ take_at w y (length w) refl

-- the last n letters of a string that ends with w, where w has so many
pub last-append : {K : Type 0} (n : ℕ) (a w : List K) → n ≤ length w → last n (a ++ w) ≡ last n w
last-append n a w h =
    let d : length (a ++ w) - n ≡ length a + (length w - n) = simp length-append (omega arith) in
    ap (λ j. drop j (a ++ w)) d ∙ sym (drop-drop (length w - n) (length a) (a ++ w)) ∙ ap (drop (length w - n)) (drop_at a w (length a) refl)

module _ {K : Type 0} (m : Model K) (laws : Lawful m) where
  pub back_passes : (a w : List K) → Pass m (a ++ w) → Pass m w
  back_passes a w p = laws.parts a w [] (rw append-nil p)

  -- a text that ends with w leads where w leads
  pub same-state : (a w : List K) → m.memory ≤ length w → Pass m (a ++ w) → run m (a ++ w) ≡ run m w
  same-state a w h p =
      laws.forgets (a ++ w) w p (back_passes a w p) (simp length-append (omega arith)) h (last-append m.memory a w h)

  -- what goes on after w goes on after each text that ends with w
  pub goes_on : (a w r : List K) → m.memory ≤ length w → Pass m (a ++ w) → Pass m (w ++ r) → Pass m ((a ++ w) ++ r)
  goes_on a w r h p q =
      ap is_some (walk-append m.next m.start (a ++ w) r ∙ ap (λ o. bind o (λ t. walk m.next t r)) (same-state a w h p) ∙ sym (walk-append m.next m.start w r)) ∙ q

  -- from one window of a passing string to a later one
  pub between : (s w u : List K) (p d : ℕ) → 0 < length w → length u ≡ length w → Pass m s → At w p s → At u (p + d) s
      → (r : List K) × (length r ≡ d) × Pass m (w ++ r) × ((a : List K) × (w ++ r ≡ a ++ u))
  between s w u p d l e ps aw au =
      let n : ℕ = d + length w in
      let piece = take n (drop p s) in
      let fits : (p + d) + length u ≤ length s = at_fits u s (p + d) (omega arith) au in
      let whole : take p s ++ (piece ++ drop n (drop p s)) ≡ s = rw take-append-drop (take-append-drop p s) in
      let pp : Pass m piece = laws.parts (take p s) piece (drop n (drop p s)) (rw whole ps) in
      let front : take (length w) piece ≡ w = take-take (length w) n (drop p s) (omega arith) ∙ at_take w s p aw in
      let joined : w ++ drop (length w) piece ≡ piece = ap (λ f. f ++ drop (length w) piece) (sym front) ∙ take-append-drop (length w) piece in
      let back : drop d piece ≡ u = drop-take d (length w) (drop p s) ∙ ap (take (length w)) (drop-drop d p s) ∙ ap (λ i. take i (drop (p + d) s)) (sym e) ∙ at_take u s (p + d) au in (
        drop (length w) piece,
        simp (length-drop, length-take) (omega arith),
        rw joined pp,
        (take d piece, joined ∙ sym (ap (λ f. take d piece ++ f) (sym back) ∙ take-append-drop d piece)),
      )
