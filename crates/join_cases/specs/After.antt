-- An automaton with two states, for cases: a letter with the number `second` is stopped right after one with the number
-- `first`. State 1 is after such a first letter. Assumes nothing.
--
--   after_model number first second    the automaton
--   after_lawful number first second   it obeys the laws
use Rattle.std.specs.Prelude.{◌≡◌, ℕ, zero, suc, ◌-◌, ◌<◌, ◌≤◌, Bool, true, false, cond, List, [], ◌∷◌, ◌++◌, length, take, is_some, Some, None, Option, ◌==◌, refl}
use Rattle.std.proofs.Common.{sym, ap, subst, ◌∙◌, ⊎_elim, arith, lit<, lit≤}
use Rattle.std.proofs.lemmas.Bool.{cases_Bool, false≢true}
use Rattle.models.specs.Automaton.{Next, Model, Lawful, walk, bind, Passes, last}
use Rattle.joinlaw.proofs.Paths.{via, walk_on}
use Rattle.joinlaw.proofs.Ends.{front_last, length_last}

abbrev pub to : ℕ → ℕ → ℕ
to first n = cond (n == first) 1 0

abbrev pub after_next : {K : Type 0} → (K → ℕ) → ℕ → ℕ → Next K
after_next number first second zero x = Some (to first (number x))
after_next number first second (suc zero) x = cond (number x == second) None (Some (to first (number x)))
after_next number first second (suc (suc q)) x = None

abbrev pub after_model : {K : Type 0} → (K → ℕ) → ℕ → ℕ → Model K
after_model number first second = record { count = 2; start = 0; next = after_next number first second; memory = 1 }

module _ {K : Type 0} (number : K → ℕ) (first second : ℕ) where
  abbrev next : Next K
  next = after_next number first second

  to_below : (n : ℕ) → to first n < 2
  to_below n = ⊎_elim (λ e. subst (λ c. cond c 1 0 < 2) (sym e) (lit< tt)) (λ e. subst (λ c. cond c 1 0 < 2) (sym e) (lit< tt)) (cases_Bool (n == first))

  -- a step leads to the state of its letter
  step_to : (q : ℕ) (x : K) (t : ℕ) → next q x ≡ Some t → t ≡ to first (number x)
  step_to zero x t e = cc
  step_to (suc zero) x t e = go (number x == second) e where
    go : (c : Bool) → cond c None (Some (to first (number x))) ≡ Some t → t ≡ to first (number x)
    go true r = let z : ◌≡◌ {A = ℕ} 0 1 = cc in absurd (omega arith)
    go false r = cc
  step_to (suc (suc q)) x t e = let z : ◌≡◌ {A = ℕ} 0 1 = cc in absurd (omega arith)

  stays : (q : ℕ) (x : K) (t : ℕ) → next q x ≡ Some t → t < 2
  stays q x t e = let h = to_below (number x) in let same = step_to q x t e in omega arith

  off : (q : ℕ) (x : K) → 2 ≤ q → next q x ≡ None
  off zero x h = absurd (omega arith)
  off (suc zero) x h = absurd (omega arith)
  off (suc (suc q)) x h = refl

  -- what passes from any state passes from the first
  from_first : (q : ℕ) (xs : List K) → Passes next q xs → Passes next 0 xs
  from_first q [] p = refl
  from_first zero (x ∷ xs) p = p
  from_first (suc zero) (x ∷ xs) p = go (number x == second) p where
    go : (c : Bool) → is_some (bind (cond c None (Some (to first (number x)))) (λ t. walk next t xs)) ≡ true → Passes next 0 (x ∷ xs)
    go true r = absurd (false≢true r)
    go false r = r
  from_first (suc (suc q)) (x ∷ xs) p = absurd (false≢true p)

  parts : (xs ys zs : List K) → Passes next 0 (xs ++ (ys ++ zs)) → Passes next 0 ys
  parts xs ys zs p =
      let w = via next 0 xs (ys ++ zs) p in
      let r = via next w.at ys zs w.on in
      from_first w.at ys (ap is_some r.there)

  -- the last letter tells the state
  state_after : (q : ℕ) (x : K) → Passes next q (x ∷ []) → walk next q (x ∷ []) ≡ Some (to first (number x))
  state_after q x p = go (next q x) refl p where
    go : (o : Option ℕ) → next q x ≡ o → is_some (bind o (λ t. Some t)) ≡ true → walk next q (x ∷ []) ≡ Some (to first (number x))
    go (Some t) e r = ap (λ o. bind o (λ t. Some t)) e ∙ ap Some (step_to q x t e)
    go None e r = absurd (false≢true r)

  by_last : (xs : List K) (end : List K) (x : K) → Passes next 0 xs → last 1 xs ≡ end → end ≡ x ∷ [] → walk next 0 xs ≡ Some (to first (number x))
  by_last xs end x p e f =
      let front = take (length xs - 1) xs in
      let whole : front ++ (x ∷ []) ≡ xs = ap (λ w. front ++ w) (sym (e ∙ f)) ∙ front_last 1 xs in
      let w = via next 0 front (x ∷ []) (subst (Passes next 0) (sym whole) p) in
      ap (walk next 0) (sym whole) ∙ walk_on next 0 w.at front (x ∷ []) w.there ∙ state_after w.at x w.on

  forgets : (xs ys : List K) → Passes next 0 xs → Passes next 0 ys → 1 ≤ length xs → 1 ≤ length ys → last 1 xs ≡ last 1 ys → walk next 0 xs ≡ walk next 0 ys
  forgets xs ys p r a b e = go (last 1 ys) refl (length_last 1 ys b) where
    go : (end : List K) → last 1 ys ≡ end → length end ≡ 1 → walk next 0 xs ≡ walk next 0 ys
    go [] f n = absurd (omega arith)
    go (x ∷ []) f n = by_last xs (x ∷ []) x p (e ∙ f) refl ∙ sym (by_last ys (x ∷ []) x r f refl)
    go (x ∷ y ∷ end) f n = absurd (omega arith)

  pub after_lawful : Lawful (after_model number first second)
  after_lawful = record {
    some = lit≤ tt;
    few = lit≤ tt;
    begins = lit< tt;
    stays = stays;
    off = off;
    parts = parts;
    forgets = forgets;
  }
