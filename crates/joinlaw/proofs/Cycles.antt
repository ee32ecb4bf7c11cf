-- Among more numbers below n than n, two are the same. Assumes nothing.
use Rattle.std.proofs.Common.{◌≡◌, ℕ, zero, suc, ◌-◌, ◌<◌, ◌≤◌, cond, ltb, ◌⊎◌, ap, ◌∙◌, inl, inr, ⊎_elim, arith}
use Rattle.std.proofs.lemmas.Bool.{cases_lt, cases_eq, lt-ltb, le-ltb, cond-true, cond-false}

-- v is taken at a place below k, or at none
record Taken (f : ℕ → ℕ) (v k : ℕ) : Type 0 where
  at : ℕ
  within : at < k
  is : f at ≡ v

taken : (f : ℕ → ℕ) (v k : ℕ) → Taken f v k ⊎ ((i : ℕ) → i < k → f i ≡ v → ⊥)
taken f v zero = inr (λ i h e. omega arith)
taken f v (suc k) = ⊎_elim
    (λ t. let w = t.within in inl (record { at = t.at; within = omega arith; is = t.is }))
    (λ no_one. ⊎_elim
    (λ e. inl (record { at = k; within = omega arith; is = e }))
    (λ ne. inr (λ i h e. ⊎_elim (λ lt. no_one i lt e) (λ ge. ne (ap f (let z : k ≡ i = omega arith in z) ∙ e)) (cases_lt i k)))
    (cases_eq (f k) v))
    (taken f v k)

-- the numbers without v, closed up
abbrev without : ℕ → ℕ → ℕ
without v x = cond (ltb v x) (x - 1) x

without_is : (v x : ℕ) → (x ≡ v → ⊥) → ((v < x) × (without v x ≡ x - 1)) ⊎ ((x < v) × (without v x ≡ x))
without_is v x ne = ⊎_elim
    (λ lt. inl (lt, cond-true (ltb v x) (x - 1) x (lt-ltb v x lt)))
    (λ ge. ⊎_elim (λ lt. inr (lt, cond-false (ltb v x) (x - 1) x (le-ltb v x ge))) (λ le. absurd (ne (omega arith))) (cases_lt x v))
    (cases_lt v x)

pub record Repeat (f : ℕ → ℕ) (n : ℕ) : Type 0 where
  pub early : ℕ
  pub late : ℕ
  pub rises : early < late
  pub within : late ≤ n
  pub same : f early ≡ f late

pub repeats : (n : ℕ) (f : ℕ → ℕ) → ((i : ℕ) → i ≤ n → f i < n) → Repeat f n
repeats zero f below = absurd (let h = below 0 (omega arith) in omega arith)
repeats (suc n) f below = ⊎_elim
    (λ t. let w = t.within in record { early = t.at; late = suc n; rises = w; within = omega arith; same = t.is })
    (λ new.
    let v = f (suc n) in
    let top = below (suc n) (omega arith) in
    let ne : (i : ℕ) → i ≤ n → f i ≡ v → ⊥ = λ i h. new i (omega arith) in
    let r = repeats n (λ i. without v (f i)) (λ i h. let b = below i (omega arith) in ⊎_elim (λ p. let a = p.0 in let e = p.1 in omega arith) (λ p. let a = p.0 in let e = p.1 in omega arith) (without_is v (f i) (ne i h))) in
    let lt = r.rises in
    let le = r.within in
    let e = r.same in
    record {
      early = r.early;
      late = r.late;
      rises = lt;
      within = omega arith;
      same = ⊎_elim
          (λ p. ⊎_elim (λ s. omega (arith, p.0, p.1, s.0, s.1)) (λ s. omega (arith, p.0, p.1, s.0, s.1)) (without_is v (f r.late) (ne r.late le)))
          (λ p. ⊎_elim (λ s. omega (arith, p.0, p.1, s.0, s.1)) (λ s. omega (arith, p.0, p.1, s.0, s.1)) (without_is v (f r.late) (ne r.late le)))
          (without_is v (f r.early) (ne r.early (omega arith)));
    })
    (taken f (f (suc n)) (suc n))
