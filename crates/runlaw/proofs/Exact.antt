-- The run automaton lets pass exactly the strings without a longer run. Assumes nothing.
use Rattle.std.proofs.Common.{◌≡◌, ℕ, zero, suc, ◌+◌, ◌<◌, ◌≤◌, true, cond, eqb, List, [], ◌∷◌, ◌++◌, map, reverse, drop, replicate, is_some, sym, refl, ap, ◌∙◌, subst, ⊎_elim, append_assoc, add-one, arith}
use mathlib.Core.List.{reverse-append, reverse-reverse, reverse-cons}
use Rattle.std.proofs.ByRecursion.{All-push}
use Rattle.std.proofs.lemmas.List.{map-append}
use Rattle.std.proofs.lemmas.Bool.{cases_lt, cases_eq, eq-eqb, ne_eqb}
use Rattle.std.specs.List.{AllByRecursion}
use Rattle.models.specs.Alphabet.{Alphabet, Numbered}
use Rattle.models.specs.Automaton.{Passes}
use Rattle.models.proofs.ByNumber.{walk-by}
use Rattle.runlaw.specs.Runs.{run_next, run_model, Short, OnlyShort}
use Rattle.runlaw.proofs.Backward.{reverse-replicate}
use Rattle.runlaw.proofs.Trail.{lead, Fine, fine_from_passes, passes_from_fine, parts}

-- no number stands more than r times in a row
Even : ℕ → List ℕ → Type 0
Even r xs = (us vs : List ℕ) (a : ℕ) → xs ≡ us ++ (replicate (suc r) a ++ vs) → ⊥

lead-replicate : (n a : ℕ) → lead a (replicate n a) ≡ n
lead-replicate zero a = refl
lead-replicate (suc n) a = let e : eqb a a ≡ true = eq-eqb a a refl in rw e (ap suc (lead-replicate n a))

lead_split : (n a : ℕ) (ys : List ℕ) → n ≤ lead a ys → ys ≡ replicate n a ++ drop n ys
lead_split zero a ys h = refl
lead_split (suc n) a [] h = absurd (omega arith)
lead_split (suc n) a (x ∷ ys) h =
    ⊎_elim (λ e. let k : lead a (x ∷ ys) ≡ suc (lead a ys) = ap (λ b. cond b (suc (lead a ys)) 0) (eq-eqb x a e) in ap (λ y. y ∷ ys) e ∙ ap (λ l. a ∷ l) (lead_split n a ys (omega arith))) (λ e. let k : lead a (x ∷ ys) ≡ 0 = ap (λ b. cond b (suc (lead a ys)) 0) (ne_eqb x a e) in absurd (omega arith)) (cases_eq x a)

fine_from : (r c : ℕ) (ys : List ℕ) → AllByRecursion (λ a. a < c) ys → Even r ys → Fine r c ys
unfolding Even
fine_from r c [] h s = tt
fine_from r c (a ∷ ys) h s =
    let rest = fine_from r c ys h.1 (λ us vs b e. s (a ∷ us) vs b (ap (λ l. a ∷ l) e)) in
    let few : lead a ys < r = ⊎_elim (λ k. k) (λ k. absurd (s [] (drop r ys) a (ap (λ l. a ∷ l) (lead_split r a ys k)))) (cases_lt (lead a ys) r) in
    (h.0, few, rest)

even_reverse : (r : ℕ) (xs : List ℕ) → Even r xs → Even r (reverse xs)
unfolding Even
even_reverse r xs s us vs a e =
    let back : xs ≡ reverse vs ++ (replicate (suc r) a ++ reverse us) =
    sym (reverse-reverse xs) ∙ ap reverse e ∙ reverse-append us (replicate (suc r) a ++ vs) ∙ ap (λ w. w ++ reverse us) (reverse-append (replicate (suc r) a) vs) ∙ append_assoc (reverse vs) (reverse (replicate (suc r) a)) (reverse us) ∙ ap (λ w. reverse vs ++ (w ++ reverse us)) (reverse-replicate (suc r) a) in
    s (reverse vs) (reverse us) a back

all-reverse : (c : ℕ) (ys : List ℕ) → AllByRecursion (λ a. a < c) ys → AllByRecursion (λ a. a < c) (reverse ys)
all-reverse c [] h = tt
all-reverse c (a ∷ ys) h = rw reverse-cons (All-push (λ a. a < c) (reverse ys) a (all-reverse c ys h.1) h.0)

even_from : (r c : ℕ) → 1 ≤ r → (xs : List ℕ) → Passes (run_next r c) 0 xs → Even r xs
unfolding Even
even_from r c l xs p us vs a e =
    let whole : Passes (run_next r c) 0 (us ++ (replicate (suc r) a ++ vs)) = subst (Passes (run_next r c) 0) e p in
    let part = parts r c l us (replicate (suc r) a) vs whole in
    let f : Fine r c (replicate (suc r) a) = subst (Fine r c) (reverse-replicate (suc r) a) (fine_from_passes r c l (replicate (suc r) a) part) in
    omega (arith, f.1, lead-replicate r a)

passes-from : (r c : ℕ) → 1 ≤ r → (xs : List ℕ) → AllByRecursion (λ a. a < c) xs → Even r xs → Passes (run_next r c) 0 xs
passes-from r c l xs h s = passes_from_fine r c l xs (fine_from r c (reverse xs) (all-reverse c xs h) (even_reverse r xs s))

-- From numbers to letters.
module _ {K : Type 0} (A : Alphabet K) (N : Numbered A) where
  map-replicate : (n : ℕ) (a : K) → map A.number (replicate n a) ≡ replicate n (A.number a)
  map-replicate zero a = refl
  map-replicate (suc n) a = ap (λ l. A.number a ∷ l) (map-replicate n a)

  all-below : (xs : List K) → AllByRecursion (λ a. a < A.size) (map A.number xs)
  all-below [] = tt
  all-below (x ∷ xs) = (N.below x, all-below xs)

  -- letters whose numbers are all n are one letter again and again
  same-letters : (m : ℕ) (ys : List K) (a : K) → map A.number ys ≡ replicate m (A.number a) → ys ≡ replicate m a
  same-letters zero [] a e = refl
  same-letters zero (y ∷ ys) a e = let z : ◌≡◌ {A = ℕ} 0 1 = cc in absurd (omega arith)
  same-letters (suc m) [] a e = let z : ◌≡◌ {A = ℕ} 0 1 = cc in absurd (omega arith)
  same-letters (suc m) (y ∷ ys) a e =
      let one : A.number y ≡ A.number a = cc in
      let rest : map A.number ys ≡ replicate m (A.number a) = cc in
      ap (λ b. b ∷ ys) (N.apart y a one) ∙ ap (λ l. a ∷ l) (same-letters m ys a rest)

  -- a front of the numbers is the numbers of a front
  split : (xs : List K) (us vs : List ℕ) → map A.number xs ≡ us ++ vs → (ys : List K) × ((zs : List K) × ((xs ≡ ys ++ zs) × ((map A.number ys ≡ us) × (map A.number zs ≡ vs))))
  split xs [] vs e = ([], (xs, (refl, (refl, e))))
  split [] (u ∷ us) vs e = let z : ◌≡◌ {A = ℕ} 0 1 = cc in absurd (omega arith)
  split (x ∷ xs) (u ∷ us) vs e =
      let head : A.number x ≡ u = cc in
      let tail : map A.number xs ≡ us ++ vs = cc in
      let s = split xs us vs tail in
      (x ∷ s.0, (s.1.0, (ap (λ l. x ∷ l) s.1.1.0, (ap (λ l. A.number x ∷ l) s.1.1.1.0 ∙ ap (λ n. n ∷ us) head, s.1.1.1.1))))

  first : (r n : ℕ) (ws : List K) → map A.number ws ≡ replicate (suc r) n → (a : K) × (ws ≡ replicate (suc r) a)
  first r n [] e = let z : ◌≡◌ {A = ℕ} 0 1 = cc in absurd (omega arith)
  first r n (w ∷ ws) e =
      let one : A.number w ≡ n = cc in
      (w, same-letters (suc r) (w ∷ ws) w (e ∙ ap (replicate (suc r)) (sym one)))

  short_even : (r : ℕ) (xs : List K) → Short r xs → Even r (map A.number xs)
  unfolding Even
  short_even r xs s us vs n e =
      let a = split xs us (replicate (suc r) n ++ vs) e in
      let b = split a.1.0 (replicate (suc r) n) vs a.1.1.1.1 in
      let f = first r n b.0 b.1.1.1.0 in
      let run : b.0 ≡ replicate (r + 1) f.0 = f.1 ∙ ap (λ m. replicate m f.0) (sym (add-one r)) in
      s f.0 (a.0, (b.1.0, a.1.1.0 ∙ ap (λ l. a.0 ++ l) (b.1.1.0 ∙ ap (λ l. l ++ b.1.0) run)))

  even_short : (r : ℕ) (xs : List K) → Even r (map A.number xs) → Short r xs
  unfolding Even
  even_short r xs s a o =
      let x = o.0 in
      let y = o.1.0 in
      let run : map A.number (replicate (r + 1) a) ≡ replicate (suc r) (A.number a) = map-replicate (r + 1) a ∙ ap (λ m. replicate m (A.number a)) (add-one r) in
      s (map A.number x) (map A.number y) (A.number a) (ap (map A.number) o.1.1 ∙ map-append A.number x (replicate (r + 1) a ++ y) ∙ ap (λ l. map A.number x ++ l) (map-append A.number (replicate (r + 1) a) y ∙ ap (λ l. l ++ map A.number y) run))

  pub only_short : (r : ℕ) → 1 ≤ r → OnlyShort (run_model A r) r
  only_short r l xs = (
    λ p. even_short r xs (even_from r A.size l (map A.number xs) (ap is_some (sym (walk-by A.number (run_next r A.size) 0 xs)) ∙ p)),
    λ s. ap is_some (walk-by A.number (run_next r A.size) 0 xs) ∙ passes-from r A.size l (map A.number xs) (all-below xs) (short_even r xs s),
  )
