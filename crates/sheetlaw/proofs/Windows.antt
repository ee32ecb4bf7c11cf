-- The windows of the letters and gaps taken, as one more is taken. Assumes nothing.
use Rattle.std.proofs.Common.{◌≡◌, ℕ, zero, suc, ◌+◌, ◌-◌, ◌<◌, ◌≤◌, true, false, cond, eqb, leb, ◌⊎◌, List, [], ◌∷◌, ◌++◌, length, take, drop, sym, refl, ap, ◌∙◌, inl, inr, append_assoc, append-nil, arith}
use Rattle.std.proofs.lemmas.List.{take-append-le, take_all, length_push}
use Rattle.std.proofs.lemmas.Bool.{cases_lt, eq-eqb, ne_eqb, le-leb, lt-leb}
use Rattle.models.specs.Automaton.{last}
use Rattle.sheetlaw.specs.Calls.{letters, run_on, since, whole, windows}
use Rattle.sheetlaw.specs.declared.Event.{Event}
use Rattle.sheetlaw.specs.declared.Event.TheVariants.{Letter, Gap}

-- the window that the letters xs end with, if they are k or more
abbrev pub ending : {K : Type 0} → ℕ → List K → List (List K)
ending k xs = cond (leb k (length xs)) (last k xs ∷ []) []

module _ {K : Type 0} where
  pub since-letter : (xs : List K) (es : List (Event K)) (x : K) → run_on xs (es ++ Letter x ∷ []) ≡ run_on xs es ++ x ∷ []
  since-letter xs [] x = refl
  since-letter xs (Letter y ∷ es) x = since-letter (xs ++ y ∷ []) es x
  since-letter xs (Gap ∷ es) x = since-letter [] es x

  pub since-gap : (xs : List K) (es : List (Event K)) → run_on xs (es ++ Gap ∷ []) ≡ []
  since-gap xs [] = refl
  since-gap xs (Letter y ∷ es) = since-gap (xs ++ y ∷ []) es
  since-gap xs (Gap ∷ es) = since-gap [] es

  pub letters-append : (es fs : List (Event K)) → letters (es ++ fs) ≡ letters es ++ letters fs
  letters-append [] fs = refl
  letters-append (Letter x ∷ es) fs = ap (λ xs. x ∷ xs) (letters-append es fs)
  letters-append (Gap ∷ es) fs = letters-append es fs

  letters-few : (es : List (Event K)) → length (letters es) ≤ length es
  letters-few [] = omega arith
  letters-few (Letter x ∷ es) = let h = letters-few es in omega arith
  letters-few (Gap ∷ es) = let h = letters-few es in omega arith

  take_letters_few : (n : ℕ) (es : List (Event K)) → length (letters (take n es)) ≤ length (letters es)
  take_letters_few zero es = omega arith
  take_letters_few (suc n) [] = omega arith
  take_letters_few (suc n) (Letter x ∷ es) = let h = take_letters_few n es in omega arith
  take_letters_few (suc n) (Gap ∷ es) = take_letters_few n es

  -- with no gap the letters run on; after a gap nothing before it counts
  gapless : (es : List (Event K))
      → (((ys : List K) → run_on ys es ≡ ys ++ letters es) × (length (letters es) ≡ length es))
      ⊎ (((ys : List K) → run_on ys es ≡ since es) × (length (since es) ≤ length (letters es)) × (length (letters es) < length es))
  gapless [] = inl (λ ys. sym (append-nil ys), refl)
  gapless (Letter x ∷ es) = elim (gapless es) [
    | inl h ↦ inl (λ ys. h.0 (ys ++ x ∷ []) ∙ append_assoc ys (x ∷ []) (letters es), omega (arith, h.1))
    | inr h ↦ inr (λ ys. h.0 (ys ++ x ∷ []) ∙ sym (h.0 (x ∷ [])), rw (h.0 (x ∷ [])) (omega (arith, h.1)), omega (arith, h.2))
  ]
  gapless (Gap ∷ es) = elim (gapless es) [
    | inl h ↦ inr (λ ys. refl, rw (h.0 []) (omega arith), omega (arith, h.1))
    | inr h ↦ inr (λ ys. refl, h.1, omega (arith, h.2))
  ]

  whole-none : (k : ℕ) (es : List (Event K)) → length (letters es) < k → whole k es ≡ []
  whole-none k es l = let e : eqb (length (letters es)) k ≡ false = ne_eqb (length (letters es)) k (λ q. omega arith) in rw e

  windows-none : (k : ℕ) (es : List (Event K)) → length (letters es) < k → windows k es ≡ []
  windows-none k [] l = refl
  windows-none k (Letter x ∷ es) l =
      let f = take_letters_few k (Letter x ∷ es) in
      rw (whole-none k (take k (Letter x ∷ es)) (omega arith)) (windows-none k es (omega arith))
  windows-none k (Gap ∷ es) l =
      let f = take_letters_few k (Gap ∷ es) in
      rw (whole-none k (take k (Gap ∷ es)) (omega arith)) (windows-none k es l)

  pub ending-none : (k : ℕ) (xs : List K) → length xs < k → ending k xs ≡ []
  ending-none k xs l = let e : leb k (length xs) ≡ false = lt-leb k (length xs) l in rw e

  pub ending_one : (k : ℕ) (xs : List K) → k ≤ length xs → ending k xs ≡ last k xs ∷ []
  ending_one k xs l = let e : leb k (length xs) ≡ true = le-leb k (length xs) l in rw e

  -- a letter further back does not count where there are enough
  ending-more : (k : ℕ) (x : K) (xs : List K) → k ≤ length xs → ending k (x ∷ xs) ≡ ending k xs
  ending-more k x xs l =
      let e : suc (length xs) - k ≡ suc (length xs - k) = omega arith in
      ending_one k (x ∷ xs) (omega arith) ∙ ap (λ n. drop n (x ∷ xs) ∷ []) e ∙ sym (ending_one k xs l)

  -- k letters at most
  whole-ending : (k : ℕ) (es : List (Event K)) → length (letters es) ≤ k → whole k es ≡ ending k (letters es)
  whole-ending k es l = elim (cases_lt (length (letters es)) k) [
    | inl h ↦ whole-none k es h ∙ sym (ending-none k (letters es) h)
    | inr h ↦ (
        let e : eqb (length (letters es)) k ≡ true = eq-eqb (length (letters es)) k (omega arith) in
        let z : length (letters es) - k ≡ 0 = omega arith in
        let o : ending k (letters es) ≡ letters es ∷ [] = ending_one k (letters es) h ∙ ap (λ n. drop n (letters es) ∷ []) z in
        rw (e, o))
  ]

  -- what stands before k letters and gaps does not count for the window that ends with x
  same-ending : (k : ℕ) (e : Event K) (es : List (Event K)) (x : K) → k ≤ suc (length es) → ending k (since es ++ x ∷ []) ≡ ending k (since (e ∷ es) ++ x ∷ [])
  same-ending k Gap es x l = refl
  same-ending k (Letter y) es x l = elim (gapless es) [
    | inl h ↦ (
        let f : k ≤ length (letters es ++ x ∷ []) = simp length_push (omega (arith, h.1)) in
        ap (λ ys. ending k (ys ++ x ∷ [])) (h.0 []) ∙ sym (ending-more k y (letters es ++ x ∷ []) f) ∙ ap (λ ys. ending k (ys ++ x ∷ [])) (sym (h.0 (y ∷ []))))
    | inr h ↦ ap (λ ys. ending k (ys ++ x ∷ [])) (sym (h.0 (y ∷ [])))
  ]

  -- fewer than k letters and gaps
  few-ending : (k : ℕ) (es : List (Event K)) (x : K) → length es < k → ending k (letters es ++ x ∷ []) ≡ ending k (since es ++ x ∷ [])
  few-ending k es x l = elim (gapless es) [
    | inl h ↦ ap (λ ys. ending k (ys ++ x ∷ [])) (sym (h.0 []))
    | inr h ↦ (
        let f : length (letters es ++ x ∷ []) < k = simp length_push (omega (arith, h.2)) in
        let g : length (since es ++ x ∷ []) < k = simp length_push (omega (arith, h.1, h.2)) in
        ending-none k (letters es ++ x ∷ []) f ∙ sym (ending-none k (since es ++ x ∷ []) g))
  ]

  -- one letter more: the window that it ends comes last
  pub windows-letter : (k : ℕ) → 1 ≤ k → (es : List (Event K)) (x : K) → windows k (es ++ Letter x ∷ []) ≡ windows k es ++ ending k (since es ++ x ∷ [])
  windows-letter k o [] x =
      let t : take k (Letter x ∷ []) ≡ Letter x ∷ [] = take_all k (Letter x ∷ []) o in
      append-nil (whole k (take k (Letter x ∷ []))) ∙ ap (whole k) t ∙ whole-ending k (Letter x ∷ []) o
  windows-letter k o (e ∷ es) x = elim (cases_lt (suc (length es)) k) [
    | inl h ↦ (
        let few = letters-few (e ∷ es) in
        let many : length (letters (es ++ Letter x ∷ [])) ≤ length es + 1 = (let f = letters-few (es ++ Letter x ∷ []) in let g = length_push es (Letter x) in omega arith) in
        let all : length (letters (e ∷ (es ++ Letter x ∷ []))) ≤ k = (let f = letters-few (e ∷ (es ++ Letter x ∷ [])) in let g = length_push es (Letter x) in omega arith) in
        let rest : windows k (es ++ Letter x ∷ []) ≡ [] = windows-none k (es ++ Letter x ∷ []) (omega arith) in
        let none : windows k (e ∷ es) ≡ [] = windows-none k (e ∷ es) (omega arith) in
        let t : take k (e ∷ (es ++ Letter x ∷ [])) ≡ e ∷ (es ++ Letter x ∷ []) = take_all k (e ∷ (es ++ Letter x ∷ [])) (let g = length_push es (Letter x) in omega arith) in
        ap (λ r. whole k (take k (e ∷ (es ++ Letter x ∷ []))) ++ r) rest ∙ append-nil (whole k (take k (e ∷ (es ++ Letter x ∷ [])))) ∙ ap (whole k) t
        ∙ whole-ending k (e ∷ (es ++ Letter x ∷ [])) all ∙ ap (ending k) (letters-append (e ∷ es) (Letter x ∷ [])) ∙ few-ending k (e ∷ es) x h
        ∙ ap (λ r. r ++ ending k (since (e ∷ es) ++ x ∷ [])) (sym none))
    | inr h ↦ (
        ap (λ r. whole k r ++ windows k (es ++ Letter x ∷ [])) (take-append-le k (e ∷ es) (Letter x ∷ []) h)
        ∙ ap (λ r. whole k (take k (e ∷ es)) ++ r) (windows-letter k o es x ∙ ap (λ r. windows k es ++ r) (same-ending k e es x h))
        ∙ sym (append_assoc (whole k (take k (e ∷ es))) (windows k es) (ending k (since (e ∷ es) ++ x ∷ []))))
  ]

  -- a gap ends no window
  pub windows-gap : (k : ℕ) → 1 ≤ k → (es : List (Event K)) → windows k (es ++ Gap ∷ []) ≡ windows k es
  windows-gap k o [] = windows-none k (Gap ∷ []) o
  windows-gap k o (e ∷ es) = elim (cases_lt (suc (length es)) k) [
    | inl h ↦ (
        let few = letters-few (e ∷ es) in
        let all : length (letters ((e ∷ es) ++ Gap ∷ [])) < k = (let f = ap length (letters-append (e ∷ es) (Gap ∷ []) ∙ append-nil (letters (e ∷ es))) in omega arith) in
        windows-none k ((e ∷ es) ++ Gap ∷ []) all ∙ sym (windows-none k (e ∷ es) (omega arith)))
    | inr h ↦ ap (λ r. whole k r ++ windows k (es ++ Gap ∷ [])) (take-append-le k (e ∷ es) (Gap ∷ []) h) ∙ ap (λ r. whole k (take k (e ∷ es)) ++ r) (windows-gap k o es)
  ]
