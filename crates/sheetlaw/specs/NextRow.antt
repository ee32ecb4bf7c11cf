-- The row of letters that leads from the last kept window to the next one. Assumes nothing.
--
--   row_of A m u w   what the bridge from the window u to the window w appends, if there is one
--   EverySheet A     the law of a sheet, for every automaton that keeps the laws, every text table and every list of calls
use Rattle.std.specs.Prelude.{◌≡◌, ℕ, List, Some, None, Ok, Option}
use Rattle.models.specs.Alphabet.{Alphabet}
use Rattle.models.specs.Automaton.{Model, Lawful}
use Rattle.joinlaw.specs.Bridges.{Bridge, row, next_row}
use Rattle.sheetlaw.specs.Calls.{Turn}
use Rattle.sheetlaw.specs.Step.{opening, opened}
use Rattle.sheetlaw.specs.Runs.{after, Exact}
use Rattle.sheetlaw.specs.Law.{Followed}

abbrev pub appended_by : {K : Type 0} → Option (Bridge K) → List K → Option (List K)
appended_by (Some b) w = Some (row b w)
appended_by None w = None

abbrev pub row_of : {K : Type 0} → Alphabet K → Model K → List K → List K → Option (List K)
row_of A m u w = appended_by (next_row A m u w) w

abbrev pub EverySheet : {K : Type 0} → Alphabet K → Type 0
EverySheet {K} A =
    (m : Model K) → Lawful m → (k : ℕ) → opening m k ≡ Ok opened → (t0 : List K) (h : List (Turn K)) → Exact m k (row_of A m) t0 h
    → Followed m A.number k (row_of A m) t0 h (after m k (row_of A m) t0 h).0 (after m k (row_of A m) t0 h).1
