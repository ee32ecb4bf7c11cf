-- Which words pass the table of a list of patterns. Assumes nothing.
use Rattle.std.proofs.Common.{◌≡◌, ℕ, ◌<◌, ◌≤◌, Bool, true, false, cond, List, [], ◌∷◌, ◌++◌, get_or, is_some, Some, None, Option, sym, refl, ap, ◌∙◌, subst, ⊎_elim, append_assoc, append-nil, arith}
use Rattle.std.proofs.lemmas.Bool.{lt-ltb, le-ltb, cases_Bool, cases_lt, both_ways}
use Rattle.models.specs.Automaton.{walk, bind, Passes, Parts, Forgets}
use Rattle.models.specs.Strings.{Occurs}
use Rattle.listlaw.specs.Patterns.{Word, member, place, states, hit, longest, memory}
use Rattle.listlaw.specs.Table.{table_next, Right, after}
use Rattle.listlaw.proofs.Members.{never}
use Rattle.listlaw.proofs.States.{state_root, states-first, states-some, states_places, states-closed, states_fronted, states_short}
use Rattle.listlaw.proofs.Suffixes.{longest-below, longest_step, hit_step, longest-last, hit_end, hit-more, hit-from}
use Rattle.listlaw.proofs.Strings.{unsnoc}

module _ (ps : List Word) (used size : ℕ) (stop : ℕ → ℕ → Bool) (goes : ℕ → ℕ → ℕ) (right : Right ps used size stop goes) where
  -- the first state is the longest suffix of the empty word
  pub begins : longest (states ps) [] ≡ 0
  begins = ap (place (states ps)) (sym (states-first ps)) ∙ states_places ps 0 (states-some ps)

  inside : (s : Word) → longest (states ps) s < used
  inside s = omega (arith, right.count, longest-below (states ps) (state_root ps) s)

  pub next_is : (q a : ℕ) → q < used → a < size → table_next used stop goes q a ≡ after ps (get_or (states ps) q []) a
  next_is q a h l = rw (lt-ltb q used h, right.stops q a h l, right.leads q a h l)

  goes_on : (s : Word) (c : ℕ) → c < size → hit ps (s ++ (c ∷ [])) ≡ false → table_next used stop goes (longest (states ps) s) c ≡ Some (longest (states ps) (s ++ (c ∷ [])))
  goes_on s c l e =
      let h : hit ps (get_or (states ps) (longest (states ps) s) [] ++ (c ∷ [])) ≡ false = sym (hit_step (states ps) (state_root ps) ps (states_fronted ps) s c) ∙ e in
      next_is (longest (states ps) s) c (inside s) l
      ∙ ap (λ (b : Bool). cond b None (Some (longest (states ps) (get_or (states ps) (longest (states ps) s) [] ++ (c ∷ []))))) h
      ∙ ap Some (sym (longest_step (states ps) (state_root ps) (states-closed ps) s c))

  stops-here : (s : Word) (c : ℕ) → c < size → hit ps (s ++ (c ∷ [])) ≡ true → table_next used stop goes (longest (states ps) s) c ≡ None
  stops-here s c l e =
      let h : hit ps (get_or (states ps) (longest (states ps) s) [] ++ (c ∷ [])) ≡ true = sym (hit_step (states ps) (state_root ps) ps (states_fronted ps) s c) ∙ e in
      next_is (longest (states ps) s) c (inside s) l
      ∙ ap (λ (b : Bool). cond b None (Some (longest (states ps) (get_or (states ps) (longest (states ps) s) [] ++ (c ∷ []))))) h

  strange-here : (s : Word) (c : ℕ) → size ≤ c → table_next used stop goes (longest (states ps) s) c ≡ None
  strange-here s c l = rw (lt-ltb (longest (states ps) s) used (inside s), right.strange (longest (states ps) s) c (inside s) l)

  -- c, after u, is a letter at whose end no pattern stands
  Fine : Word → ℕ → Type 0
  Fine u c = (c < size) × (hit ps (u ++ (c ∷ [])) ≡ false)

  Clean : Word → Type 0
  Clean xs = (u : Word) (c : ℕ) (v : Word) → xs ≡ u ++ (c ∷ v) → Fine u c

  onward : (s xs : Word) → ((u : Word) (c : ℕ) (v : Word) → xs ≡ u ++ (c ∷ v) → Fine (s ++ u) c) → walk (table_next used stop goes) (longest (states ps) s) xs ≡ Some (longest (states ps) (s ++ xs))
  unfolding Fine
  onward s [] clean = ap (λ (w : Word). Some (longest (states ps) w)) (sym (append-nil s))
  onward s (c ∷ xs) clean =
      let here : (c < size) × (hit ps (s ++ (c ∷ [])) ≡ false) = subst (λ (w : Word). (c < size) × (hit ps (w ++ (c ∷ [])) ≡ false)) (append-nil s) (clean [] c xs refl) in
      ap (λ (o : Option ℕ). bind o (λ t. walk (table_next used stop goes) t xs)) (goes_on s c here.0 here.1)
      ∙ onward (s ++ (c ∷ [])) xs (λ u d v e. subst (λ (w : Word). (d < size) × (hit ps (w ++ (d ∷ [])) ≡ false)) (sym (append_assoc s (c ∷ []) u)) (clean (c ∷ u) d v (ap (λ (w : Word). c ∷ w) e)))
      ∙ ap (λ (w : Word). Some (longest (states ps) w)) (append_assoc s (c ∷ []) xs)

  passed : (o : Option ℕ) (f : ℕ → Option ℕ) → o ≡ None → is_some (bind o f) ≡ true → ⊥
  passed o f e h = both_ways false refl (sym (ap (λ (p : Option ℕ). is_some (bind p f)) e) ∙ h)

  first_fine : (s : Word) (c : ℕ) (v : Word) → Passes (table_next used stop goes) (longest (states ps) s) (c ∷ v) → (c < size) × (hit ps (s ++ (c ∷ [])) ≡ false)
  first_fine s c v h = ⊎_elim
      (λ l. (l, never (hit ps (s ++ (c ∷ []))) (λ e. passed (table_next used stop goes (longest (states ps) s) c) (λ t. walk (table_next used stop goes) t v) (stops-here s c l e) h)))
      (λ g. absurd (passed (table_next used stop goes (longest (states ps) s) c) (λ t. walk (table_next used stop goes) t v) (strange-here s c g) h))
      (cases_lt c size)

  cleaned : (s u : Word) (c : ℕ) (v : Word) → Passes (table_next used stop goes) (longest (states ps) s) (u ++ (c ∷ v)) → Fine (s ++ u) c
  unfolding Fine
  cleaned s [] c v h = subst (λ (w : Word). (c < size) × (hit ps (w ++ (c ∷ [])) ≡ false)) (sym (append-nil s)) (first_fine s c v h)
  cleaned s (x ∷ u) c v h =
      let f = first_fine s x (u ++ (c ∷ v)) h in
      let on : Passes (table_next used stop goes) (longest (states ps) (s ++ (x ∷ []))) (u ++ (c ∷ v)) =
      sym (ap (λ (o : Option ℕ). is_some (bind o (λ t. walk (table_next used stop goes) t (u ++ (c ∷ v))))) (goes_on s x f.0 f.1)) ∙ h in
      subst (λ (w : Word). (c < size) × (hit ps (w ++ (c ∷ [])) ≡ false)) (append_assoc s (x ∷ []) u) (cleaned (s ++ (x ∷ [])) u c v on)

  clean_walk : (xs : Word) → Clean xs → walk (table_next used stop goes) 0 xs ≡ Some (longest (states ps) xs)
  unfolding Clean Fine
  clean_walk xs clean = ap (λ (q : ℕ). walk (table_next used stop goes) q xs) (sym begins) ∙ onward [] xs clean

  pass_clean : (xs : Word) → Passes (table_next used stop goes) 0 xs → Clean xs
  unfolding Clean Fine
  pass_clean xs h u c v e =
      cleaned [] u c v (subst (λ (w : Word). Passes (table_next used stop goes) (longest (states ps) []) w) e (ap (λ (q : ℕ). is_some (walk (table_next used stop goes) q xs)) begins ∙ h))

  clean_pass : (xs : Word) → Clean xs → Passes (table_next used stop goes) 0 xs
  clean_pass xs clean = ap is_some (clean_walk xs clean)

  pub parts : Parts (table_next used stop goes) 0
  unfolding Clean Fine
  parts xs ys zs h = clean_pass ys (λ u c v e.
      let long : xs ++ (ys ++ zs) ≡ (xs ++ u) ++ (c ∷ (v ++ zs)) =
      ap (λ (w : Word). xs ++ (w ++ zs)) e ∙ ap (λ (w : Word). xs ++ w) (append_assoc u (c ∷ v) zs) ∙ sym (append_assoc xs u (c ∷ (v ++ zs))) in
      let f = pass_clean (xs ++ (ys ++ zs)) h (xs ++ u) c (v ++ zs) long in
      (f.0, never (hit ps (u ++ (c ∷ []))) (λ k. both_ways (hit ps ((xs ++ u) ++ (c ∷ []))) f.1 (ap (hit ps) (append_assoc xs u (c ∷ [])) ∙ hit-more ps xs (u ++ (c ∷ [])) k))))

  pub forgets : Forgets (table_next used stop goes) 0 (memory ps)
  forgets xs ys p q h k e =
      let short = states_short ps in
      clean_walk xs (pass_clean xs p)
      ∙ ap Some (longest-last (states ps) (memory ps) short xs ∙ ap (longest (states ps)) e ∙ sym (longest-last (states ps) (memory ps) short ys))
      ∙ sym (clean_walk ys (pass_clean ys q))

  -- a word of such letters passes exactly when no pattern occurs in it
  pub free_pass : (xs : Word) → ((u : Word) (c : ℕ) (v : Word) → xs ≡ u ++ (c ∷ v) → c < size) → ((p : Word) → member ps p ≡ true → Occurs p xs → ⊥) → Passes (table_next used stop goes) 0 xs
  unfolding Clean Fine
  free_pass xs small free = clean_pass xs (λ u c v e. (
    small u c v e,
    never (hit ps (u ++ (c ∷ []))) (λ k.
        let f = hit-from ps (u ++ (c ∷ [])) k in
        let s = f.0 in
        let p = f.1.0 in
        let at : xs ≡ s ++ (p ++ v) = e ∙ sym (append_assoc u (c ∷ []) v) ∙ ap (λ (w : Word). w ++ v) f.1.1.0 ∙ append_assoc s p v in
        free p f.1.1.1 (s, (v, at))),
  ))

  pub pass_free : (xs : Word) → Passes (table_next used stop goes) 0 xs → (p : Word) → member ps p ≡ true → Occurs p xs → ⊥
  unfolding Clean Fine
  pass_free xs h p m o =
      let l = unsnoc p (right.solid p m) in
      let x = o.0 in
      let y = o.1.0 in
      let front = l.0 in
      let c = l.1.0 in
      let at : xs ≡ (x ++ front) ++ (c ∷ y) =
      o.1.1 ∙ ap (λ (w : Word). x ++ (w ++ y)) l.1.1 ∙ ap (λ (w : Word). x ++ w) (append_assoc front (c ∷ []) y) ∙ sym (append_assoc x front (c ∷ y)) in
      let f = pass_clean xs h (x ++ front) c y at in
      let own : (x ++ front) ++ (c ∷ []) ≡ x ++ p = append_assoc x front (c ∷ []) ∙ ap (λ (w : Word). x ++ w) (sym l.1.1) in
      both_ways (hit ps ((x ++ front) ++ (c ∷ []))) f.1 (ap (hit ps) own ∙ hit_end ps x p m)

  pub stays : (q a t : ℕ) → table_next used stop goes q a ≡ Some t → t < used
  stays q a t e = ⊎_elim
      (λ h. ⊎_elim
      (λ l. ⊎_elim
      (λ k. absurd (none-some (sym (next_is q a h l ∙ ap (λ (b : Bool). cond b None (Some (longest (states ps) (get_or (states ps) q [] ++ (a ∷ []))))) k) ∙ e)))
      (λ k. let is : longest (states ps) (get_or (states ps) q [] ++ (a ∷ [])) ≡ t = some-some (sym (next_is q a h l ∙ ap (λ (b : Bool). cond b None (Some (longest (states ps) (get_or (states ps) q [] ++ (a ∷ []))))) k) ∙ e) in omega (arith, is, inside (get_or (states ps) q [] ++ (a ∷ []))))
      (cases_Bool (hit ps (get_or (states ps) q [] ++ (a ∷ [])))))
      (λ g. absurd (none-some (sym (strange q a h g) ∙ e)))
      (cases_lt a size))
      (λ g. absurd (none-some (sym (off g) ∙ e)))
      (cases_lt q used)
    where
      none-some : {t : ℕ} → None ≡ Some t → ⊥
      none-some e = let z : ◌≡◌ {A = ℕ} 0 1 = cc in omega arith

      some-some : {t u : ℕ} → Some t ≡ Some u → t ≡ u
      some-some e = cc

      strange : (q a : ℕ) → q < used → size ≤ a → table_next used stop goes q a ≡ None
      strange q a h g = rw (lt-ltb q used h, right.strange q a h g)

      off : used ≤ q → table_next used stop goes q a ≡ None
      off g = rw (le-ltb q used g)
