-- The words of the queue's places ascend, and none that leads to a goal stands before the one of the first goal. Assumes nothing.
use Rattle.std.proofs.Common.{◌≡◌, ℕ, zero, suc, ◌<◌, ◌≤◌, Bool, true, ◌⊎◌, List, [], ◌∷◌, ◌++◌, Some, None, Option, sym, refl, ap, ◌∙◌, subst, inl, inr, ⊎_elim, arith}
use Rattle.std.proofs.lemmas.List.{length_push, append_assoc, append-nil}
use Rattle.std.proofs.lemmas.Bool.{cases_lt}
use Rattle.models.specs.Automaton.{Next, walk, bind}
use Rattle.models.proofs.Walks.{walk_step}
use Rattle.joins.specs.Queue.{Queued, Searched, Goalless}
use Rattle.joins.specs.Spelling.{numbers, numbers_by}
use Rattle.joins.proofs.WordOrder.{Lt, Le, lt_push, lt_letter, le_push, le_longer, le_trans}

-- more fuel spells the same word
module _ (p l : ℕ → ℕ) (tail : ℕ) (parent : (i : ℕ) → 0 < i → i < tail → p i < i) where
  fuel : (k m i : ℕ) → i ≤ k → i ≤ m → i < tail → numbers_by p l k i ≡ numbers_by p l m i
  fuel zero zero i a b t = refl
  fuel zero (suc m) zero a b t = refl
  fuel zero (suc m) (suc i) a b t = absurd (omega arith)
  fuel (suc k) zero zero a b t = refl
  fuel (suc k) zero (suc i) a b t = absurd (omega arith)
  fuel (suc k) (suc m) zero a b t = refl
  fuel (suc k) (suc m) (suc i) a b t =
      let h = parent (suc i) (omega arith) t in
      ap (λ w. w ++ (l (suc i) ∷ [])) (fuel k m (p (suc i)) (omega arith) (omega arith) (omega arith))

  -- the word of a place is that of its parent, and its letter
  pub numbers_more : (i : ℕ) → 0 < i → i < tail → numbers p l i ≡ numbers p l (p i) ++ (l i ∷ [])
  numbers_more zero h t = absurd (omega arith)
  numbers_more (suc i) h t =
      let b = parent (suc i) (omega arith) t in
      ap (λ w. w ++ (l (suc i) ∷ [])) (fuel i (p (suc i)) (p (suc i)) (omega arith) (omega arith) (omega arith))

-- where a walk goes first
record Goes (f : Next ℕ) (s c t : ℕ) (y : List ℕ) : Type 0 where
  to : ℕ
  goes : f s c ≡ Some to
  rest : walk f to y ≡ Some t

goes_first : (f : Next ℕ) (s c t : ℕ) (y : List ℕ) → walk f s (c ∷ y) ≡ Some t → Goes f s c t y
goes_first f s c t y r = go (f s c) refl r where
  go : (o : Option ℕ) → f s c ≡ o → bind o (λ u. walk f u y) ≡ Some t → Goes f s c t y
  go (Some u) e r = record { to = u; goes = e; rest = r }
  go None e r = let z : ◌≡◌ {A = ℕ} 0 1 = cc in absurd (omega arith)

module _ (f : Next ℕ) (start head tail : ℕ) (q p l : ℕ → ℕ) (found : Searched f start head tail q p l) where
  abbrev w : ℕ → List ℕ
  w i = numbers p l i

  more : (i : ℕ) → 0 < i → i < tail → w i ≡ w (p i) ++ (l i ∷ [])
  more = numbers_more p l tail found.parent

  shift : (x y u v : List ℕ) → x ≡ u → y ≡ v → Lt u v → Lt x y
  shift x y u v e g h = subst (λ a. Lt a y) (sym e) (subst (λ a. Lt u a) (sym g) h)

  first_lt : (i : ℕ) (y : List ℕ) (c : ℕ) → i ≡ 0 → Lt (w i) (y ++ (c ∷ []))
  first_lt i y c z = let n = length_push y c in shift (w i) _ [] _ (ap w z) refl (inl (omega arith))

  -- later places have later words
  mono : (m i j : ℕ) → j < m → i < j → j < tail → Lt (w i) (w j)
  mono zero i j b h t = absurd (omega arith)
  mono (suc m) i j b h t =
      let pj = found.parent j (omega arith) t in
      let wj = more j (omega arith) t in
      ⊎_elim
      (λ pos.
      let pi = found.parent i pos (omega arith) in
      let wi = more i pos (omega arith) in
      ⊎_elim
      (λ lt. shift (w i) (w j) _ _ wi wj (lt_push (w (p i)) (w (p j)) (l i) (l j) (mono m (p i) (p j) (omega arith) lt (omega arith))))
      (λ e. shift (w i) (w j) _ _ (wi ∙ ap (λ k. w k ++ (l i ∷ [])) e.0) wj (lt_letter (w (p j)) (l i) (l j) e.1))
      (found.order i j pos h t))
      (λ none. shift (w i) (w j) (w i) _ refl wj (first_lt i (w (p j)) (l j) (omega arith)))
      (cases_lt 0 i)

  up : (i j : ℕ) → i ≤ j → j < tail → Le (w i) (w j)
  up i j h t = ⊎_elim (λ lt. inl (mono (suc j) i j (omega arith) lt t)) (λ ge. inr (ap w (let z : i ≡ j = omega arith in z))) (cases_lt i j)

  queued_le : (u i c : ℕ) → i < tail → (k : Queued q p l tail u i c) → Le (w k.at) (w i ++ (c ∷ []))
  queued_le u i c h k =
      let tk = k.within in
      ⊎_elim
      (λ pos.
      let wk = more k.at pos tk in
      ⊎_elim
      (λ z. inl (first_lt k.at (w i) c z))
      (⊎_elim
      (⊎_elim
      (λ lt. inl (shift (w k.at) _ _ _ wk refl (lt_push (w (p k.at)) (w i) (l k.at) c (mono (suc i) (p k.at) i (omega arith) lt h))))
      (λ e. inl (shift (w k.at) _ _ _ (wk ∙ ap (λ a. w a ++ (l k.at ∷ [])) e.0) refl (lt_letter (w i) (l k.at) c e.1))))
      (λ e. inr (wk ∙ ap (λ a. w a ++ (l k.at ∷ [])) e.0 ∙ ap (λ a. w i ++ (a ∷ [])) e.1)))
      k.early)
      (λ none. inl (first_lt k.at (w i) c (omega arith)))
      (cases_lt 0 k.at)

  -- of a word y that leads to s: s has a place with a word not later, or a place that is not done has
  record Here (y : List ℕ) (s : ℕ) : Type 0 where
    at : ℕ
    within : at < tail
    state : q at ≡ s
    le : Le (w at) y

  record Past (y : List ℕ) : Type 0 where
    at : ℕ
    from : head ≤ at
    within : at < tail
    le : Le (w at) y

  near_step : (y : List ℕ) (s c t : ℕ) → f s c ≡ Some t → Here y s ⊎ Past y → Here (y ++ (c ∷ [])) t ⊎ Past (y ++ (c ∷ []))
  near_step y s c t g (inl a) = ⊎_elim
      (λ lt.
      let k = found.closed a.at c t lt (ap (λ v. f v c) a.state ∙ g) in
      inl (record { at = k.at; within = k.within; state = k.state; le = le_trans _ _ _ (queued_le t a.at c a.within k) (le_push (w a.at) y c a.le) }))
      (λ ge. inr (record { at = a.at; from = ge; within = a.within; le = le_trans (w a.at) y _ a.le (le_longer y c) }))
      (cases_lt a.at head)
  near_step y s c t g (inr b) = inr (record { at = b.at; from = b.from; within = b.within; le = le_trans (w b.at) y _ b.le (le_longer y c) })

  near_all : (z y : List ℕ) (s t : ℕ) → walk f s z ≡ Some t → Here y s ⊎ Past y → Here (y ++ z) t ⊎ Past (y ++ z)
  near_all [] y s t r n = subst (λ v. Here v t ⊎ Past v) (sym (append-nil y)) (subst (λ u. Here y u ⊎ Past y) (let same : s ≡ t = cc in same) n)
  near_all (c ∷ z) y s t r n =
      let g = goes_first f s c t z r in
      subst (λ v. Here v t ⊎ Past v) (append_assoc y (c ∷ []) z) (near_all z (y ++ (c ∷ [])) g.to t g.rest (near_step y s c g.to g.goes n))

  near : (y : List ℕ) (t : ℕ) → walk f start y ≡ Some t → Here y t ⊎ Past y
  near y t r = near_all y [] start t r (inl (record { at = 0; within = found.some; state = found.first; le = inr refl }))

  -- the word of a place leads to its state
  leads-by : (m i : ℕ) → i < m → i < tail → walk f start (w i) ≡ Some (q i)
  leads-by zero i b t = absurd (omega arith)
  leads-by (suc m) i b t = ⊎_elim
      (λ pos. let pi = found.parent i pos t in ap (walk f start) (more i pos t) ∙ walk_step f start (q (p i)) (w (p i)) (l i) (leads-by m (p i) (omega arith) (omega arith)) ∙ found.goes i pos t)
      (λ none. let z : i ≡ 0 = omega arith in ap (λ k. walk f start (w k)) z ∙ ap Some (sym found.first) ∙ ap (λ k. Some (q k)) (sym z))
      (cases_lt 0 i)

  pub leads : (i : ℕ) → i < tail → walk f start (w i) ≡ Some (q i)
  leads i t = leads-by (suc i) i (omega arith) t

  module _ (goal : ℕ → Bool) (before : Goalless goal head q) where
    pub first_word : head < tail → (y : List ℕ) (t : ℕ) → walk f start y ≡ Some t → goal t ≡ true → Le (w head) y
    first_word h y t r g = ⊎_elim
        (λ a. ⊎_elim
        (λ lt. absurd (before a.at lt (ap goal a.state ∙ g)))
        (λ ge. le_trans (w head) (w a.at) y (up head a.at ge a.within) a.le)
        (cases_lt a.at head))
        (λ b. le_trans (w head) (w b.at) y (up head b.at b.from b.within) b.le)
        (near y t r)

    -- with all places done, no word leads to a goal
    pub no_word : head ≡ tail → (y : List ℕ) (t : ℕ) → walk f start y ≡ Some t → goal t ≡ true → ⊥
    no_word h y t r g = ⊎_elim
        (λ a. let k = a.within in before a.at (omega arith) (ap goal a.state ∙ g))
        (λ b. let k = b.within in let m = b.from in omega arith)
        (near y t r)
