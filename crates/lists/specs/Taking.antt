-- What a list has taken, and when it refuses a pattern. Assumes nothing.
--
--   Holding A n m .. ps   the list, on n records and m words, has taken the patterns ps over the letters of A, no others and in this order
--   cause A n m ps p   why a list on n records and m words that has taken ps refuses p, if it does
--   refused r       the fault in a result, if there is one
--   taking r ps p   the patterns taken after p was answered by r
use Rattle.std.specs.Prelude.{◌≡◌, ℕ, ◌*◌, ◌≤◌, Bool, cond, ◌||◌, List, [], ◌∷◌, ◌++◌, length, Some, None, Ok, Err, Option, Result, ◌==◌, nat_le, nat_lt}
use Rattle.models.specs.Alphabet.{Alphabet}
use Rattle.faults.specs.declared.Fault.{Fault}
use Rattle.faults.specs.Causes.{bad_length, full_list, short_tables}
use Rattle.listlaw.specs.Patterns.{coded, states}
use Rattle.lists.specs.declared.record.Record.{Record}
use Rattle.lists.specs.Lists.{Lists}

-- the tables are long enough
abbrev pub Roomy : {K : Type 0} → Alphabet K → ℕ → ℕ → Type 0
Roomy A n m = (512 ≤ n) × (512 * A.size ≤ m)

pub record Holding {K : Type 0} (A : Alphabet K) (n m : ℕ) (ns : List Record) (words : List ℕ) (used taken longest : ℕ) (ps : List (List K)) : Type 0 where
  pub deep : length ns ≡ n
  pub broad : length words ≡ m
  pub lists : Lists ns used taken longest (coded A ps)
  -- only tables that are long enough take a pattern
  pub wide : 1 ≤ length ps → Roomy A n m

-- a 65th pattern, or a 513th distinct proper prefix of the patterns
abbrev pub full : {K : Type 0} → Alphabet K → List (List K) → List K → Bool
full A ps p = nat_le 64 (length ps) || nat_lt 512 (length (states (coded A (ps ++ (p ∷ [])))))

-- first that the tables are too short, then that the pattern has 0 or over 12 letters, then that the list is full
abbrev pub cause : {K : Type 0} → Alphabet K → ℕ → ℕ → List (List K) → List K → Option Fault
cause A n m ps p =
    cond (nat_lt n 512 || nat_lt m (512 * A.size)) (Some short_tables)
    (cond (length p == 0 || nat_lt 12 (length p)) (Some (bad_length (length p)))
    (cond (full A ps p) (Some (full_list (length ps))) None))

abbrev pub refused : {X : Type 0} → Result X Fault → Option Fault
refused (Ok x) = None
refused (Err e) = Some e

abbrev pub taking : {X K : Type 0} → Result X Fault → List (List K) → List K → List (List K)
taking (Ok x) ps p = ps ++ (p ∷ [])
taking (Err e) ps p = ps
