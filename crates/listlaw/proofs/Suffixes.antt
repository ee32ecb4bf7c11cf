-- The longest suffix that is a state, and patterns that are suffixes. Assumes nothing.
use Rattle.std.proofs.Common.{◌≡◌, ℕ, suc, ◌-◌, ◌<◌, ◌≤◌, Bool, true, false, ◌||◌, List, [], ◌∷◌, ◌++◌, length, get_or, drop, sym, refl, ap, ◌∙◌, ⊎_elim, arith}
use Rattle.std.proofs.lemmas.List.{drop_all}
use Rattle.std.proofs.lemmas.Bool.{or_cases, or_left, or_right, cases_Bool, both_ways, cond-true, cond-false, cases_lt}
use Rattle.models.specs.Automaton.{last}
use Rattle.listlaw.specs.Patterns.{Word, member, place, hit, longest}
use Rattle.listlaw.proofs.Members.{never, place-below, place_at}
use Rattle.listlaw.proofs.States.{Closed}

module _ (ws : List Word) where
  -- a state is its own longest suffix
  pub longest-member : (t : Word) → member ws t ≡ true → longest ws t ≡ place ws t
  longest-member [] h = refl
  longest-member (c ∷ t) h = cond-true (member ws (c ∷ t)) (place ws (c ∷ t)) (longest ws t) h

  pub longest_name : (t : Word) → member ws t ≡ true → get_or ws (longest ws t) [] ≡ t
  longest_name t h = ap (λ (i : ℕ). get_or ws i []) (longest-member t h) ∙ place_at ws t h

  pub longest-skip : (c : ℕ) (t : Word) → member ws (c ∷ t) ≡ false → longest ws (c ∷ t) ≡ longest ws t
  longest-skip c t h = cond-false (member ws (c ∷ t)) (place ws (c ∷ t)) (longest ws t) h

module _ (ws : List Word) (root : member ws [] ≡ true) where
  pub longest-below : (t : Word) → longest ws t < length ws
  longest-below [] = place-below ws [] root
  longest-below (c ∷ t) = ⊎_elim
      (λ e. let p = place-below ws (c ∷ t) e in omega (arith, longest-member ws (c ∷ t) e))
      (λ e. omega (arith, longest-skip ws c t e, longest-below t))
      (cases_Bool (member ws (c ∷ t)))

  pub longest_short : (t : Word) → length (get_or ws (longest ws t) []) ≤ length t
  longest_short [] = omega (arith, ap length (longest_name ws [] root))
  longest_short (c ∷ t) = ⊎_elim
      (λ e. omega (arith, ap length (longest_name ws (c ∷ t) e)))
      (λ e. omega (arith, ap (λ (i : ℕ). length (get_or ws i [])) (longest-skip ws c t e), longest_short t))
      (cases_Bool (member ws (c ∷ t)))

  -- the longest state at the end of t sees the longest one at the end of t and a letter
  pub longest_step : Closed ws → (t : Word) (c : ℕ) → longest ws (t ++ (c ∷ [])) ≡ longest ws (get_or ws (longest ws t) [] ++ (c ∷ []))
  longest_step closed t c = ⊎_elim
      (λ e. ap (λ (w : Word). longest ws (w ++ (c ∷ []))) (sym (longest_name ws t e)))
      (λ e. off t e)
      (cases_Bool (member ws t))
    where
      off : (t : Word) → member ws t ≡ false → longest ws (t ++ (c ∷ [])) ≡ longest ws (get_or ws (longest ws t) [] ++ (c ∷ []))
      off [] e = absurd (both_ways (member ws []) e root)
      off (a ∷ t) e =
          let out : member ws ((a ∷ t) ++ (c ∷ [])) ≡ false = never (member ws ((a ∷ t) ++ (c ∷ []))) (λ m. both_ways (member ws (a ∷ t)) e (closed (a ∷ t) c m)) in
          let rest : longest ws (t ++ (c ∷ [])) ≡ longest ws (get_or ws (longest ws t) [] ++ (c ∷ [])) = ⊎_elim
          (λ k. ap (λ (w : Word). longest ws (w ++ (c ∷ []))) (sym (longest_name ws t k)))
          (λ k. off t k)
          (cases_Bool (member ws t)) in
          longest-skip ws a (t ++ (c ∷ [])) out ∙ rest ∙ ap (λ (i : ℕ). longest ws (get_or ws i [] ++ (c ∷ []))) (sym (longest-skip ws a t e))

  -- and every pattern that ends there
  pub hit_step : (ps : List Word) → ((w : Word) (c : ℕ) → member ps (w ++ (c ∷ [])) ≡ true → member ws w ≡ true) → (t : Word) (c : ℕ) → hit ps (t ++ (c ∷ [])) ≡ hit ps (get_or ws (longest ws t) [] ++ (c ∷ []))
  hit_step ps fronted t c = ⊎_elim
      (λ e. ap (λ (w : Word). hit ps (w ++ (c ∷ []))) (sym (longest_name ws t e)))
      (λ e. off t e)
      (cases_Bool (member ws t))
    where
      off : (t : Word) → member ws t ≡ false → hit ps (t ++ (c ∷ [])) ≡ hit ps (get_or ws (longest ws t) [] ++ (c ∷ []))
      off [] e = absurd (both_ways (member ws []) e root)
      off (a ∷ t) e =
          let out : member ps ((a ∷ t) ++ (c ∷ [])) ≡ false = never (member ps ((a ∷ t) ++ (c ∷ []))) (λ m. both_ways (member ws (a ∷ t)) e (fronted (a ∷ t) c m)) in
          let rest : hit ps (t ++ (c ∷ [])) ≡ hit ps (get_or ws (longest ws t) [] ++ (c ∷ [])) = ⊎_elim
          (λ k. ap (λ (w : Word). hit ps (w ++ (c ∷ []))) (sym (longest_name ws t k)))
          (λ k. off t k)
          (cases_Bool (member ws t)) in
          ap (λ (b : Bool). b || hit ps (t ++ (c ∷ []))) out ∙ rest ∙ ap (λ (i : ℕ). hit ps (get_or ws i [] ++ (c ∷ []))) (sym (longest-skip ws a t e))

-- only the last letters count, as many as the longest state has
pub longest-last : (ws : List Word) (m : ℕ) → ((w : Word) → member ws w ≡ true → length w ≤ m) → (t : Word) → longest ws t ≡ longest ws (last m t)
longest-last ws m short [] = ap (longest ws) (sym (drop_all (length {A = ℕ} [] - m) [] (omega arith)))
longest-last ws m short (c ∷ t) = ⊎_elim
    (λ lt.
    let e : suc (length t) - m ≡ suc (length t - m) = omega arith in
    let out : member ws (c ∷ t) ≡ false = never (member ws (c ∷ t)) (λ h. omega (arith, short (c ∷ t) h)) in
    longest-skip ws c t out ∙ longest-last ws m short t ∙ ap (λ (n : ℕ). longest ws (drop n (c ∷ t))) (sym e))
    (λ ge. let e : suc (length t) - m ≡ 0 = omega arith in ap (λ (n : ℕ). longest ws (drop n (c ∷ t))) (sym e))
    (cases_lt m (suc (length t)))

pub hit_end : (ps : List Word) (s p : Word) → member ps p ≡ true → hit ps (s ++ p) ≡ true
hit_end ps [] [] h = h
hit_end ps [] (c ∷ p) h = or_left (member ps (c ∷ p)) (hit ps p) h
hit_end ps (x ∷ s) p h = or_right (member ps (x ∷ (s ++ p))) (hit ps (s ++ p)) (hit_end ps s p h)

pub hit-more : (ps : List Word) (s t : Word) → hit ps t ≡ true → hit ps (s ++ t) ≡ true
hit-more ps [] t h = h
hit-more ps (x ∷ s) t h = or_right (member ps (x ∷ (s ++ t))) (hit ps (s ++ t)) (hit-more ps s t h)

pub hit-from : (ps : List Word) (t : Word) → hit ps t ≡ true → (s : Word) × ((p : Word) × ((t ≡ s ++ p) × (member ps p ≡ true)))
hit-from ps [] h = ([], ([], (refl, h)))
hit-from ps (c ∷ t) h = ⊎_elim
    (λ e. ([], (c ∷ t, (refl, e))))
    (λ e. let r = hit-from ps t e in (c ∷ r.0, (r.1.0, (ap (λ (w : Word). c ∷ w) r.1.1.0, r.1.1.1))))
    (or_cases (member ps (c ∷ t)) (hit ps t) h)
