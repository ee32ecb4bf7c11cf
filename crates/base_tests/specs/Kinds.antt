-- Kinds of 1 and of 32 letters, and an automaton that stops nothing. Assumes nothing.
--
--   one_alphabet    the kind with the one letter Only
--   wide_alphabet   the kind of five flags: its 32 letters are numbered as the flags are read in base 2
--   idle_model n    n states, of which each letter leaves each as it is
use Rattle.std.specs.Prelude.{◌≡◌, ℕ, zero, suc, ◌+◌, ◌*◌, ◌/◌, ◌%◌, ◌<◌, ◌≤◌, Bool, true, false, cond, ltb, List, [], ◌∷◌, is_some, Some, None, Option, ◌==◌, nat_eq, nat_lt, refl}
use Rattle.std.proofs.Common.{sym, ap, ◌∙◌, arith, lit<, lit≤}
use Rattle.std.proofs.lemmas.Bool.{ne_eqb, le-ltb, lt-ltb, ltb-true}
use Rattle.models.specs.Alphabet.{Alphabet, Numbered, Bears}
use Rattle.models.specs.Automaton.{Next, Model, Lawful, walk, bind}
use Rattle.models.proofs.Alphabets.{apart-given}
use Rattle.base_tests.specs.declared.kinds.One.{One}
use Rattle.base_tests.specs.declared.kinds.One.TheVariants.{Only}
use Rattle.base_tests.specs.declared.kinds.Wide.{Wide}

abbrev pub one_letter : ℕ → Option One
one_letter n = cond (n == 0) (Some Only) None

abbrev pub one_alphabet : Alphabet One
one_alphabet = record { size = 1; number = λ _. 0; letter = one_letter }

one_given : (x : One) → one_letter 0 ≡ Some x
one_given Only = refl

one_held : (n : ℕ) → n < 1 → Bears {K = One} (λ _. 0) n (one_letter n)
one_held zero h = refl
one_held (suc n) h = absurd (omega arith)

pub one_numbered : Numbered one_alphabet
one_numbered = record {
  some = lit≤ tt;
  few = lit≤ tt;
  below = λ x. lit< tt;
  apart = apart-given one_alphabet one_given;
  given = one_given;
  held = one_held;
  past = λ n h. let e : nat_eq n 0 ≡ false = ne_eqb n 0 (λ z. omega arith) in rw e;
}

-- a flag, as a digit
abbrev pub bit : Bool → ℕ
bit b = cond b 1 0

abbrev pub flags : Bool → Bool → Bool → Bool → Bool → ℕ
flags a b c d e = 16 * bit a + (8 * bit b + (4 * bit c + (2 * bit d + bit e)))

abbrev pub wide_number : Wide → ℕ
wide_number x = flags x.a x.b x.c x.d x.e

abbrev pub wide_letter : ℕ → Option Wide
wide_letter n =
    cond (nat_lt n 32) (Some (record { a = (n / 16 == 1); b = (n / 8 % 2 == 1); c = (n / 4 % 2 == 1); d = (n / 2 % 2 == 1); e = (n % 2 == 1) })) None

abbrev pub wide_alphabet : Alphabet Wide
wide_alphabet = record { size = 32; number = wide_number; letter = wide_letter }

wide_below : (a b c d e : Bool) → flags a b c d e < 32
wide_below true true true true true = lit< tt
wide_below true true true true false = lit< tt
wide_below true true true false true = lit< tt
wide_below true true true false false = lit< tt
wide_below true true false true true = lit< tt
wide_below true true false true false = lit< tt
wide_below true true false false true = lit< tt
wide_below true true false false false = lit< tt
wide_below true false true true true = lit< tt
wide_below true false true true false = lit< tt
wide_below true false true false true = lit< tt
wide_below true false true false false = lit< tt
wide_below true false false true true = lit< tt
wide_below true false false true false = lit< tt
wide_below true false false false true = lit< tt
wide_below true false false false false = lit< tt
wide_below false true true true true = lit< tt
wide_below false true true true false = lit< tt
wide_below false true true false true = lit< tt
wide_below false true true false false = lit< tt
wide_below false true false true true = lit< tt
wide_below false true false true false = lit< tt
wide_below false true false false true = lit< tt
wide_below false true false false false = lit< tt
wide_below false false true true true = lit< tt
wide_below false false true true false = lit< tt
wide_below false false true false true = lit< tt
wide_below false false true false false = lit< tt
wide_below false false false true true = lit< tt
wide_below false false false true false = lit< tt
wide_below false false false false true = lit< tt
wide_below false false false false false = lit< tt

wide_given : (a b c d e : Bool) → wide_letter (flags a b c d e) ≡ Some (record { a = a; b = b; c = c; d = d; e = e })
wide_given true true true true true = refl
wide_given true true true true false = refl
wide_given true true true false true = refl
wide_given true true true false false = refl
wide_given true true false true true = refl
wide_given true true false true false = refl
wide_given true true false false true = refl
wide_given true true false false false = refl
wide_given true false true true true = refl
wide_given true false true true false = refl
wide_given true false true false true = refl
wide_given true false true false false = refl
wide_given true false false true true = refl
wide_given true false false true false = refl
wide_given true false false false true = refl
wide_given true false false false false = refl
wide_given false true true true true = refl
wide_given false true true true false = refl
wide_given false true true false true = refl
wide_given false true true false false = refl
wide_given false true false true true = refl
wide_given false true false true false = refl
wide_given false true false false true = refl
wide_given false true false false false = refl
wide_given false false true true true = refl
wide_given false false true true false = refl
wide_given false false true false true = refl
wide_given false false true false false = refl
wide_given false false false true true = refl
wide_given false false false true false = refl
wide_given false false false false true = refl
wide_given false false false false false = refl

wide_held : (n : ℕ) → n < 32 → Bears wide_number n (wide_letter n)
wide_held zero h = refl
wide_held (suc zero) h = refl
wide_held (suc (suc zero)) h = refl
wide_held (suc (suc (suc zero))) h = refl
wide_held (suc (suc (suc (suc zero)))) h = refl
wide_held (suc (suc (suc (suc (suc zero))))) h = refl
wide_held (suc (suc (suc (suc (suc (suc zero)))))) h = refl
wide_held (suc (suc (suc (suc (suc (suc (suc zero))))))) h = refl
wide_held (suc (suc (suc (suc (suc (suc (suc (suc zero)))))))) h = refl
wide_held (suc (suc (suc (suc (suc (suc (suc (suc (suc zero))))))))) h = refl
wide_held (suc (suc (suc (suc (suc (suc (suc (suc (suc (suc zero)))))))))) h = refl
wide_held (suc (suc (suc (suc (suc (suc (suc (suc (suc (suc (suc zero))))))))))) h = refl
wide_held (suc (suc (suc (suc (suc (suc (suc (suc (suc (suc (suc (suc zero)))))))))))) h = refl
wide_held (suc (suc (suc (suc (suc (suc (suc (suc (suc (suc (suc (suc (suc zero))))))))))))) h = refl
wide_held (suc (suc (suc (suc (suc (suc (suc (suc (suc (suc (suc (suc (suc (suc zero)))))))))))))) h = refl
wide_held (suc (suc (suc (suc (suc (suc (suc (suc (suc (suc (suc (suc (suc (suc (suc zero))))))))))))))) h = refl
wide_held (suc (suc (suc (suc (suc (suc (suc (suc (suc (suc (suc (suc (suc (suc (suc (suc zero)))))))))))))))) h = refl
wide_held (suc (suc (suc (suc (suc (suc (suc (suc (suc (suc (suc (suc (suc (suc (suc (suc (suc zero))))))))))))))))) h = refl
wide_held (suc (suc (suc (suc (suc (suc (suc (suc (suc (suc (suc (suc (suc (suc (suc (suc (suc (suc zero)))))))))))))))))) h = refl
wide_held (suc (suc (suc (suc (suc (suc (suc (suc (suc (suc (suc (suc (suc (suc (suc (suc (suc (suc (suc zero))))))))))))))))))) h = refl
wide_held (suc (suc (suc (suc (suc (suc (suc (suc (suc (suc (suc (suc (suc (suc (suc (suc (suc (suc (suc (suc zero)))))))))))))))))))) h = refl
wide_held (suc (suc (suc (suc (suc (suc (suc (suc (suc (suc (suc (suc (suc (suc (suc (suc (suc (suc (suc (suc (suc zero))))))))))))))))))))) h = refl
wide_held (suc (suc (suc (suc (suc (suc (suc (suc (suc (suc (suc (suc (suc (suc (suc (suc (suc (suc (suc (suc (suc (suc zero)))))))))))))))))))))) h = refl
wide_held (suc (suc (suc (suc (suc (suc (suc (suc (suc (suc (suc (suc (suc (suc (suc (suc (suc (suc (suc (suc (suc (suc (suc zero))))))))))))))))))))))) h = refl
wide_held (suc (suc (suc (suc (suc (suc (suc (suc (suc (suc (suc (suc (suc (suc (suc (suc (suc (suc (suc (suc (suc (suc (suc (suc zero)))))))))))))))))))))))) h = refl
wide_held (suc (suc (suc (suc (suc (suc (suc (suc (suc (suc (suc (suc (suc (suc (suc (suc (suc (suc (suc (suc (suc (suc (suc (suc (suc zero))))))))))))))))))))))))) h = refl
wide_held (suc (suc (suc (suc (suc (suc (suc (suc (suc (suc (suc (suc (suc (suc (suc (suc (suc (suc (suc (suc (suc (suc (suc (suc (suc (suc zero)))))))))))))))))))))))))) h = refl
wide_held (suc (suc (suc (suc (suc (suc (suc (suc (suc (suc (suc (suc (suc (suc (suc (suc (suc (suc (suc (suc (suc (suc (suc (suc (suc (suc (suc zero))))))))))))))))))))))))))) h = refl
wide_held (suc (suc (suc (suc (suc (suc (suc (suc (suc (suc (suc (suc (suc (suc (suc (suc (suc (suc (suc (suc (suc (suc (suc (suc (suc (suc (suc (suc zero)))))))))))))))))))))))))))) h = refl
wide_held (suc (suc (suc (suc (suc (suc (suc (suc (suc (suc (suc (suc (suc (suc (suc (suc (suc (suc (suc (suc (suc (suc (suc (suc (suc (suc (suc (suc (suc zero))))))))))))))))))))))))))))) h = refl
wide_held (suc (suc (suc (suc (suc (suc (suc (suc (suc (suc (suc (suc (suc (suc (suc (suc (suc (suc (suc (suc (suc (suc (suc (suc (suc (suc (suc (suc (suc (suc zero)))))))))))))))))))))))))))))) h = refl
wide_held (suc (suc (suc (suc (suc (suc (suc (suc (suc (suc (suc (suc (suc (suc (suc (suc (suc (suc (suc (suc (suc (suc (suc (suc (suc (suc (suc (suc (suc (suc (suc zero))))))))))))))))))))))))))))))) h = refl
wide_held (suc (suc (suc (suc (suc (suc (suc (suc (suc (suc (suc (suc (suc (suc (suc (suc (suc (suc (suc (suc (suc (suc (suc (suc (suc (suc (suc (suc (suc (suc (suc (suc n)))))))))))))))))))))))))))))))) h = absurd (omega arith)

pub wide_numbered : Numbered wide_alphabet
wide_numbered = record {
  some = lit≤ tt;
  few = lit≤ tt;
  below = λ x. wide_below x.a x.b x.c x.d x.e;
  apart = apart-given wide_alphabet (λ x. wide_given x.a x.b x.c x.d x.e);
  given = λ x. wide_given x.a x.b x.c x.d x.e;
  held = wide_held;
  past = λ n h. let e : ltb n 32 ≡ false = le-ltb n 32 h in rw e;
}

abbrev pub idle_next : {K : Type 0} → ℕ → Next K
idle_next n q x = cond (nat_lt q n) (Some q) None

abbrev pub idle_model : {K : Type 0} → ℕ → Model K
idle_model n = record { count = n; start = 0; next = idle_next n; memory = 0 }

idle_walk : {K : Type 0} (n : ℕ) → 1 ≤ n → (xs : List K) → walk (idle_next n) 0 xs ≡ Some 0
idle_walk n h [] = refl
idle_walk n h (x ∷ xs) = let e : ltb 0 n ≡ true = lt-ltb 0 n h in ap (λ b. bind (cond b (Some 0) None) (λ t. walk (idle_next n) t xs)) e ∙ idle_walk n h xs

stays_in : (b : Bool) (q t n : ℕ) → (b ≡ true → q < n) → cond b (Some q) None ≡ Some t → t < n
stays_in true q t n h e = let s : q ≡ t = cc in omega (arith, h refl)
stays_in false q t n h e = let z : ◌≡◌ {A = ℕ} 0 1 = cc in absurd (omega arith)

pub idle_lawful : {K : Type 0} (n : ℕ) → 1 ≤ n → n ≤ 4096 → Lawful (idle_model {K = K} n)
idle_lawful n h k = record {
  some = h;
  few = k;
  begins = h;
  stays = λ q a t e. stays_in (nat_lt q n) q t n (ltb-true q n) e;
  off = λ q a l. let e : ltb q n ≡ false = le-ltb q n l in rw e;
  parts = λ xs ys zs p. ap is_some (idle_walk n h ys);
  forgets = λ xs ys p r a b e. idle_walk n h xs ∙ sym (idle_walk n h ys);
}
