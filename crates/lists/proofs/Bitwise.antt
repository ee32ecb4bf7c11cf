-- End marks, a bit for each letter. Assumes nothing.
use Rattle.std.proofs.Common.{◌≡◌, ℕ, zero, suc, ◌+◌, ◌-◌, ◌*◌, ◌/◌, ◌%◌, ◌^◌, ◌<◌, false, ◌||◌, eqb, sym, refl, ap, ◌∙◌, ⊎_elim, pow-suc, mul-div_cancel, arith}
use native.Mathlib.Nat.{zero-div, div-eq_of_lt, div_self, mul-mod_left}
use lib.Bits.{bit_or, or_shr, or_mod}
use Rattle.std.proofs.lemmas.Nat.{pow_pos, pow-add, pow_below, mod_below}
use Rattle.std.proofs.lemmas.Bool.{cases_order, eq-eqb, ne_eqb}
use Rattle.lists.specs.Lists.{bit}

pub bit_zero : (a : ℕ) → bit 0 a ≡ false
bit_zero a = rw (zero-div (2 ^ a))

small_or : (u v : ℕ) → u < 2 → v < 2 → eqb (bit_or u v) 1 ≡ (eqb u 1 || eqb v 1)
small_or zero v h k = refl
small_or (suc zero) zero h k = refl
small_or (suc zero) (suc zero) h k = refl
small_or (suc zero) (suc (suc v)) h k = absurd (omega arith)
small_or (suc (suc u)) v h k = absurd (omega arith)

pub bit-bit_or : (m n a : ℕ) → bit (bit_or m n) a ≡ (bit m a || bit n a)
bit-bit_or m n a =
    let x : ℕ = m / 2 ^ a in
    let y : ℕ = n / 2 ^ a in
    ap (λ (k : ℕ). eqb (k % 2) 1) (or_shr m n a) ∙ ap (λ (k : ℕ). eqb k 1) (or_mod x y 1) ∙ small_or (x % 2) (y % 2) (mod_below x 2 (omega arith)) (mod_below y 2 (omega arith))

pub bit_pow : (c a : ℕ) → bit (2 ^ c) a ≡ eqb c a
bit_pow c a = ⊎_elim
    (λ e. ap (λ (k : ℕ). bit (2 ^ k) a) e ∙ ap (λ (k : ℕ). eqb (k % 2) 1) (div_self (pow_pos a)) ∙ sym (eq-eqb c a e))
    (⊎_elim
    (λ l. ap (λ (k : ℕ). eqb (k % 2) 1) (div-eq_of_lt (pow_below c a l)) ∙ sym (ne_eqb c a (λ e. omega arith)))
    (λ l.
    let d : ℕ = c - a - 1 in
    let e : suc d + a ≡ c = omega arith in
    let q : 2 ^ c / 2 ^ a ≡ 2 ^ d * 2 =
    ap (λ (k : ℕ). 2 ^ k / 2 ^ a) (sym e) ∙ ap (λ (k : ℕ). k / 2 ^ a) (pow-add 2 (suc d) a) ∙ mul-div_cancel (2 ^ suc d) (pow_pos a) ∙ pow-suc 2 d in
    ap (λ (k : ℕ). eqb (k % 2) 1) q ∙ ap (λ (k : ℕ). eqb k 1) (mul-mod_left (2 ^ d) 2) ∙ sym (ne_eqb c a (λ f. omega arith))))
    (cases_order c a)
