-- The row of letters that a sheet appends to its text for a window. Assumes nothing.
--
--   Meet m k t u w         the passing text t ends with the window u of k letters, and w is a passing window of k letters
--   Rows m number k row    row u w is the row that every text which ends with the window u is given for the window w: the
--                          shortest that continues the text so, among equals the first in letter order, or None where none does
use Rattle.std.specs.Prelude.{◌≡◌, ℕ, List, length, Some, None, Option}
use Rattle.models.specs.Automaton.{Model, Pass}
use Rattle.models.specs.Strings.{Ends, Least}
use Rattle.joinlaw.specs.Laws.{Continues}

pub record Meet {K : Type 0} (m : Model K) (k : ℕ) (t u w : List K) : Type 0 where
  pub left : length u ≡ k
  pub right : length w ≡ k
  pub text : Pass m t
  pub ends : Ends u t
  pub window : Pass m w

pub record Rows {K : Type 0} (m : Model K) (number : K → ℕ) (k : ℕ) (row : List K → List K → Option (List K)) : Type 0 where
  pub serves : (t u w : List K) → Meet m k t u w → (r : List K) → row u w ≡ Some r → Least number (Continues m t w) r
  pub none : (t u w : List K) → Meet m k t u w → row u w ≡ None → (r : List K) → Continues m t w r → ⊥
