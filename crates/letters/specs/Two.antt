-- The two-letter kind: `a` is 0 and `b` is 1. Assumes nothing.
use Rattle.std.specs.Prelude.{◌≡◌, ℕ, zero, suc, ◌<◌, ◌≤◌, false, cond, Some, None, Option, ◌==◌, nat_eq, refl}
use Rattle.std.proofs.Common.{arith, lit<, lit≤}
use Rattle.std.proofs.lemmas.Bool.{ne_eqb}
use Rattle.models.specs.Alphabet.{Alphabet, Numbered, Bears}
use Rattle.models.proofs.Alphabets.{apart-given}
use Rattle.letters.specs.declared.two.Two.{Two}
use Rattle.letters.specs.declared.two.Two.TheVariants.{A, B}

abbrev pub two_number : Two → ℕ
two_number A = 0
two_number B = 1

abbrev pub two_letter : ℕ → Option Two
two_letter n =
    cond (n == 0) (Some A) (cond (n == 1) (Some B) None)

abbrev pub two_alphabet : Alphabet Two
two_alphabet = record { size = 2; number = two_number; letter = two_letter }

-- the byte of the letter with a number, and the number of the letter that a byte reads as
abbrev pub two_printed : ℕ → ℕ
two_printed n =
    cond (n == 0) 97 98

abbrev pub two_parsed : ℕ → Option ℕ
two_parsed b =
    cond (b == 97) (Some 0) (cond (b == 98) (Some 1) None)

below : (x : Two) → two_number x < 2
below A = lit< tt
below B = lit< tt

given : (x : Two) → two_letter (two_number x) ≡ Some x
given A = refl
given B = refl

held : (n : ℕ) → n < 2 → Bears two_number n (two_letter n)
held zero h = refl
held (suc zero) h = refl
held (suc (suc n)) h = absurd (omega arith)

past : (n : ℕ) → 2 ≤ n → two_letter n ≡ None
past n h =
    let e0 : nat_eq n 0 ≡ false = ne_eqb n 0 (λ z. omega arith) in
    let e1 : nat_eq n 1 ≡ false = ne_eqb n 1 (λ z. omega arith) in
    rw (e0, e1)

pub two_numbered : Numbered two_alphabet
two_numbered = record {
  some = lit≤ tt;
  few = lit≤ tt;
  below = below;
  apart = apart-given two_alphabet given;
  given = given;
  held = held;
  past = past;
}
