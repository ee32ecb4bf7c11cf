-- How a file is cut into its lines.
use Rattle.std.proofs.Common.{◌≡◌, ℕ, zero, suc, ◌+◌, ◌<◌, true, false, eqb, List, [], ◌∷◌, length, get_or, take, drop, add-one, arith}
use Rattle.std.proofs.lemmas.Bool.Decides.{nat_tests}
use Rattle.files.specs.Lines.{lines}

-- the first n bytes hold no newline, and one stands at n: the first line is those n
cut : (n : ℕ) (bs : List ℕ) → n < length bs → ((k : ℕ) → k < n → get_or bs k 0 ≡ 10 → ⊥) → get_or bs n 0 ≡ 10 → lines bs ≡ take n bs ∷ lines (drop (suc n) bs)
cut n [] h before here = absurd (omega arith)
cut zero (b ∷ bs) h before here = let e : eqb b 10 ≡ true = grind (arith, nat_tests) in rw e
cut (suc n) (b ∷ bs) h before here =
    let ne : b ≡ 10 → ⊥ = before 0 (omega arith) in
    let e : eqb b 10 ≡ false = grind (arith, nat_tests) in
    let i = cut n bs (omega arith) (λ k l. before (suc k) (omega arith)) here in
    rw (e, i)

pub lines_cut : (n : ℕ) (bs : List ℕ) → n < length bs → ((k : ℕ) → k < n → get_or bs k 0 ≡ 10 → ⊥) → get_or bs n 0 ≡ 10 → lines bs ≡ take n bs ∷ lines (drop (n + 1) bs)
lines_cut n bs h before here = rw add-one (cut n bs h before here)

-- no newline at all
pub lines-whole : (bs : List ℕ) → 0 < length bs → ((k : ℕ) → k < length bs → get_or bs k 0 ≡ 10 → ⊥) → lines bs ≡ bs ∷ []
lines-whole [] h before = absurd (omega arith)
lines-whole (b ∷ []) h before =
    let ne : b ≡ 10 → ⊥ = before 0 (omega arith) in
    let e : eqb b 10 ≡ false = grind (arith, nat_tests) in
    rw e
lines-whole (b ∷ a ∷ bs) h before =
    let ne : b ≡ 10 → ⊥ = before 0 (omega arith) in
    let e : eqb b 10 ≡ false = grind (arith, nat_tests) in
    let i = lines-whole (a ∷ bs) (omega arith) (λ k l. before (suc k) (omega arith)) in
    rw (e, i)
