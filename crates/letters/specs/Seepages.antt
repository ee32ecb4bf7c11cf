-- Seepage: a flow class from 0 to 3 and clear or cloudy. The number is 2 × flow, plus 1 if cloudy;
-- clear is written `a` to `d`, cloudy `A` to `D`. Assumes nothing.
use Rattle.std.specs.Prelude.{◌≡◌, ℕ, zero, suc, ◌+◌, ◌*◌, ◌/◌, ◌%◌, ◌<◌, ◌≤◌, Bool, true, false, cond, Some, None, Option, ◌==◌, nat_eq, refl}
use Rattle.std.proofs.Common.{arith, lit<, lit≤}
use Rattle.std.proofs.lemmas.Bool.{ne_eqb}
use Rattle.models.specs.Alphabet.{Alphabet, Numbered, Bears}
use Rattle.models.proofs.Alphabets.{apart-given}
use Rattle.letters.specs.declared.seepage.Flow.{Flow}
use Rattle.letters.specs.declared.seepage.Flow.TheVariants.{Zero, One, Two, Three}
use Rattle.letters.specs.declared.seepage.Seepage.{Seepage}

abbrev pub flow_class : Flow → ℕ
flow_class Zero = 0
flow_class One = 1
flow_class Two = 2
flow_class Three = 3

abbrev pub seepage_number : Seepage → ℕ
seepage_number x = 2 * flow_class x.flow + cond x.cloudy 1 0

-- the flow class with a number, clear or cloudy
abbrev pub of_class : ℕ → Bool → Option Seepage
of_class n c =
    cond (n == 0) (Some (record { flow = Zero; cloudy = c })) (cond (n == 1) (Some (record { flow = One; cloudy = c })) (cond (n == 2) (Some (record { flow = Two; cloudy = c })) (cond (n == 3) (Some (record { flow = Three; cloudy = c })) None)))

abbrev pub seepage_letter : ℕ → Option Seepage
seepage_letter n = of_class (n / 2) (n % 2 == 1)

abbrev pub seepage_alphabet : Alphabet Seepage
seepage_alphabet = record { size = 8; number = seepage_number; letter = seepage_letter }

-- the byte of the letter with a number, and the number of the letter that a byte reads as
abbrev pub seepage_printed : ℕ → ℕ
seepage_printed n = cond (n % 2 == 1) 65 97 + n / 2

abbrev pub seepage_parsed : ℕ → Option ℕ
seepage_parsed b =
    cond (b == 97) (Some 0) (cond (b == 98) (Some 2) (cond (b == 99) (Some 4) (cond (b == 100) (Some 6) (cond (b == 65) (Some 1) (cond (b == 66) (Some 3) (cond (b == 67) (Some 5) (cond (b == 68) (Some 7) None)))))))

below_by : (f : Flow) (c : Bool) → 2 * flow_class f + cond c 1 0 < 8
below_by Zero true = lit< tt
below_by Zero false = lit< tt
below_by One true = lit< tt
below_by One false = lit< tt
below_by Two true = lit< tt
below_by Two false = lit< tt
below_by Three true = lit< tt
below_by Three false = lit< tt

given_by : (f : Flow) (c : Bool) → seepage_letter (2 * flow_class f + cond c 1 0) ≡ Some (record { flow = f; cloudy = c })
given_by Zero true = refl
given_by Zero false = refl
given_by One true = refl
given_by One false = refl
given_by Two true = refl
given_by Two false = refl
given_by Three true = refl
given_by Three false = refl

given : (x : Seepage) → seepage_letter (seepage_number x) ≡ Some x
given x = given_by x.flow x.cloudy

held : (n : ℕ) → n < 8 → Bears seepage_number n (seepage_letter n)
held zero h = refl
held (suc zero) h = refl
held (suc (suc zero)) h = refl
held (suc (suc (suc zero))) h = refl
held (suc (suc (suc (suc zero)))) h = refl
held (suc (suc (suc (suc (suc zero))))) h = refl
held (suc (suc (suc (suc (suc (suc zero)))))) h = refl
held (suc (suc (suc (suc (suc (suc (suc zero))))))) h = refl
held (suc (suc (suc (suc (suc (suc (suc (suc n)))))))) h = absurd (omega arith)

past : (n : ℕ) → 8 ≤ n → seepage_letter n ≡ None
past n h =
    let e0 : nat_eq (n / 2) 0 ≡ false = ne_eqb (n / 2) 0 (λ z. omega arith) in
    let e1 : nat_eq (n / 2) 1 ≡ false = ne_eqb (n / 2) 1 (λ z. omega arith) in
    let e2 : nat_eq (n / 2) 2 ≡ false = ne_eqb (n / 2) 2 (λ z. omega arith) in
    let e3 : nat_eq (n / 2) 3 ≡ false = ne_eqb (n / 2) 3 (λ z. omega arith) in
    rw (e0, e1, e2, e3)

pub seepage_numbered : Numbered seepage_alphabet
seepage_numbered = record {
  some = lit≤ tt;
  few = lit≤ tt;
  below = λ x. below_by x.flow x.cloudy;
  apart = apart-given seepage_alphabet given;
  given = given;
  held = held;
  past = past;
}
