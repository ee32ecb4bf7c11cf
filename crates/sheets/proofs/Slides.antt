-- The running window with a letter more. Assumes nothing.
use Rattle.std.proofs.Common.{◌≡◌, ℕ, ◌+◌, ◌-◌, ◌<◌, ◌≤◌, List, [], ◌∷◌, ◌++◌, length, get_or, take, drop, set, sym, ap, ◌∙◌, subst, arith, length-drop}
use Rattle.std.proofs.lemmas.List.{drop-set-lt, take_more, take_more_set, get_or-drop, drop-take, drop-drop}

module _ {K : Type 0} where
  -- one letter moved to the front; those after it are as they were
  front_step : (i : ℕ) (y : K) (old run : List K) → i + 1 < length old → i < length run → y ≡ get_or old (i + 1) y → take i run ≡ take i (drop 1 old)
      → take (i + 1) (set run i y) ≡ take (i + 1) (drop 1 old)
  front_step i y old run l m read e =
      let n : i < length (drop 1 old) = simp length-drop (omega arith) in
      let c : 1 + i ≡ i + 1 = omega arith in
      take_more_set run i y m
      ∙ ap (λ t. t ++ y ∷ []) e
      ∙ ap (λ z. take i (drop 1 old) ++ z ∷ []) (read ∙ ap (λ j. get_or old j y) (sym c) ∙ sym (get_or-drop 1 old i y))
      ∙ sym (take_more (drop 1 old) i y n)

  pub move_step : (i : ℕ) (y : K) (old run : List K) → i + 1 < length run → length run ≡ length old → y ≡ get_or run (i + 1) y → take i run ≡ take i (drop 1 old) → drop i run ≡ drop i old
      → (take (i + 1) (set run i y) ≡ take (i + 1) (drop 1 old)) × (drop (i + 1) (set run i y) ≡ drop (i + 1) old)
  move_step i y old run l n read e d =
      let was : y ≡ get_or old (i + 1) y = read ∙ sym (get_or-drop i run 1 y) ∙ ap (λ z. get_or z 1 y) d ∙ get_or-drop i old 1 y in
      let c : 1 + i ≡ i + 1 = omega arith in
      let rest : (z : List K) → drop (i + 1) z ≡ drop 1 (drop i z) = λ z. ap (λ j. drop j z) (sym c ∙ omega arith) ∙ sym (drop-drop 1 i z) in
      (front_step i y old run (omega arith) (omega arith) was e, drop-set-lt (i + 1) run i y (omega arith) ∙ rest run ∙ ap (drop 1) d ∙ sym (rest old))

  -- all letters moved, and a new one at the end
  pub slid : (n i : ℕ) (x : K) (old run : List K) → 1 ≤ n → i ≡ n - 1 → n ≤ length old → n ≤ length run → take i run ≡ take i (drop 1 old)
      → take n (set run (n - 1) x) ≡ drop 1 (take n old) ++ x ∷ []
  slid n i x old run o e l m inv =
      let n' : n ≡ (n - 1) + 1 = omega arith in
      let n'' : n ≡ 1 + (n - 1) = omega arith in
      let moved : take (n - 1) run ≡ take (n - 1) (drop 1 old) = subst (λ j. take j run ≡ take j (drop 1 old)) e inv in
      ap (λ j. take j (set run (n - 1) x)) n'
      ∙ take_more_set run (n - 1) x (omega arith)
      ∙ ap (λ t. t ++ x ∷ []) (moved ∙ sym (drop-take 1 (n - 1) old) ∙ ap (λ j. drop 1 (take j old)) (sym n''))
