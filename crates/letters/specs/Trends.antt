-- One piezometer: steady, rise, fall, fast rise, fast fall and scale mark, numbered 0 to 5, written `=`, `+`, `-`, `*`, `/`, `S`. Assumes nothing.
use Rattle.std.specs.Prelude.{◌≡◌, ℕ, zero, suc, ◌<◌, ◌≤◌, false, cond, Some, None, Option, ◌==◌, nat_eq, refl}
use Rattle.std.proofs.Common.{arith, lit<, lit≤}
use Rattle.std.proofs.lemmas.Bool.{ne_eqb}
use Rattle.models.specs.Alphabet.{Alphabet, Numbered, Bears}
use Rattle.models.proofs.Alphabets.{apart-given}
use Rattle.letters.specs.declared.trend.Trend.{Trend}
use Rattle.letters.specs.declared.trend.Trend.TheVariants.{Steady, Rise, Fall, FastRise, FastFall, ScaleMark}

abbrev pub trend_number : Trend → ℕ
trend_number Steady = 0
trend_number Rise = 1
trend_number Fall = 2
trend_number FastRise = 3
trend_number FastFall = 4
trend_number ScaleMark = 5

abbrev pub trend_letter : ℕ → Option Trend
trend_letter n =
    cond (n == 0) (Some Steady) (cond (n == 1) (Some Rise) (cond (n == 2) (Some Fall) (cond (n == 3) (Some FastRise) (cond (n == 4) (Some FastFall) (cond (n == 5) (Some ScaleMark) None)))))

abbrev pub trend_alphabet : Alphabet Trend
trend_alphabet = record { size = 6; number = trend_number; letter = trend_letter }

-- the byte of the letter with a number, and the number of the letter that a byte reads as
abbrev pub trend_printed : ℕ → ℕ
trend_printed n =
    cond (n == 0) 61 (cond (n == 1) 43 (cond (n == 2) 45 (cond (n == 3) 42 (cond (n == 4) 47 83))))

abbrev pub trend_parsed : ℕ → Option ℕ
trend_parsed b =
    cond (b == 61) (Some 0) (cond (b == 43) (Some 1) (cond (b == 45) (Some 2) (cond (b == 42) (Some 3) (cond (b == 47) (Some 4) (cond (b == 83) (Some 5) None)))))

below : (x : Trend) → trend_number x < 6
below Steady = lit< tt
below Rise = lit< tt
below Fall = lit< tt
below FastRise = lit< tt
below FastFall = lit< tt
below ScaleMark = lit< tt

given : (x : Trend) → trend_letter (trend_number x) ≡ Some x
given Steady = refl
given Rise = refl
given Fall = refl
given FastRise = refl
given FastFall = refl
given ScaleMark = refl

held : (n : ℕ) → n < 6 → Bears trend_number n (trend_letter n)
held zero h = refl
held (suc zero) h = refl
held (suc (suc zero)) h = refl
held (suc (suc (suc zero))) h = refl
held (suc (suc (suc (suc zero)))) h = refl
held (suc (suc (suc (suc (suc zero))))) h = refl
held (suc (suc (suc (suc (suc (suc n)))))) h = absurd (omega arith)

past : (n : ℕ) → 6 ≤ n → trend_letter n ≡ None
past n h =
    let e0 : nat_eq n 0 ≡ false = ne_eqb n 0 (λ z. omega arith) in
    let e1 : nat_eq n 1 ≡ false = ne_eqb n 1 (λ z. omega arith) in
    let e2 : nat_eq n 2 ≡ false = ne_eqb n 2 (λ z. omega arith) in
    let e3 : nat_eq n 3 ≡ false = ne_eqb n 3 (λ z. omega arith) in
    let e4 : nat_eq n 4 ≡ false = ne_eqb n 4 (λ z. omega arith) in
    let e5 : nat_eq n 5 ≡ false = ne_eqb n 5 (λ z. omega arith) in
    rw (e0, e1, e2, e3, e4, e5)

pub trend_numbered : Numbered trend_alphabet
trend_numbered = record {
  some = lit≤ tt;
  few = lit≤ tt;
  below = below;
  apart = apart-given trend_alphabet given;
  given = given;
  held = held;
  past = past;
}
