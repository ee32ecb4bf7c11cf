-- An opening that is not refused. Assumes nothing.
--
--   Fits m k   k is 2 to 12, and the automaton's memory at most k
use Rattle.std.proofs.Common.{◌≡◌, ℕ, ◌<◌, ◌≤◌, true, false, ◌||◌, ltb, ◌⊎◌, Ok, Err, Result, inl, inr, arith}
use Rattle.std.proofs.lemmas.Bool.{cond_both, ltb-false, lt-ltb, le-ltb, or_parts, or_from, or_left, or_right}
use Rattle.faults.specs.declared.Fault.{Fault}
use Rattle.faults.specs.Causes.{bad_window, long_memory}
use Rattle.models.specs.Automaton.{Model}
use Rattle.sheetlaw.specs.Step.{Contents, opening, opened}

pub record Fits {K : Type 0} (m : Model K) (k : ℕ) : Type 0 where
  pub some : 2 ≤ k
  pub few : k ≤ 12
  pub recalls : m.memory ≤ k

pub opening_fits : {K : Type 0} (m : Model K) (k : ℕ) → opening m k ≡ Ok opened → Fits m k
opening_fits {K} m k =
    cond_both (ltb k 2 || ltb 12 k) _ _ (λ (r : Result (Contents K) Fault). r ≡ Ok opened → Fits m k) (λ _ e. absurd (let z : ◌≡◌ {A = ℕ} 0 1 = cc in omega arith)) (λ b.
    cond_both (ltb k m.memory) _ _ (λ (r : Result (Contents K) Fault). r ≡ Ok opened → Fits m k) (λ _ e. absurd (let z : ◌≡◌ {A = ℕ} 0 1 = cc in omega arith)) (λ c _.
    let p = or_parts (ltb k 2) (ltb 12 k) b in
    record { some = ltb-false k 2 p.0; few = ltb-false 12 k p.1; recalls = ltb-false k m.memory c }))

pub fits_opening : {K : Type 0} (m : Model K) (k : ℕ) → Fits m k → opening m k ≡ Ok opened
fits_opening m k f =
    let a : (ltb k 2 || ltb 12 k) ≡ false = or_from (ltb k 2) (ltb 12 k) (le-ltb k 2 f.some) (le-ltb 12 k f.few) in
    let b : ltb k m.memory ≡ false = le-ltb k m.memory f.recalls in
    rw (a, b)

-- and one that is
pub opening_bad : {K : Type 0} (m : Model K) (k : ℕ) → (k < 2) ⊎ (12 < k) → opening m k ≡ Err (bad_window k)
opening_bad {K} m k w =
    let a : (ltb k 2 || ltb 12 k) ≡ true = elim w [ inl h ↦ or_left (ltb k 2) (ltb 12 k) (lt-ltb k 2 h) | inr h ↦ or_right (ltb k 2) (ltb 12 k) (lt-ltb 12 k h) ] in
    rw a

pub opening-long : {K : Type 0} (m : Model K) (k : ℕ) → 2 ≤ k → k ≤ 12 → k < m.memory → opening m k ≡ Err (long_memory m.memory)
opening-long m k some few h =
    let a : (ltb k 2 || ltb 12 k) ≡ false = or_from (ltb k 2) (ltb 12 k) (le-ltb k 2 some) (le-ltb 12 k few) in
    let b : ltb k m.memory ≡ true = lt-ltb k m.memory h in
    rw (a, b)
