-- The join of two contexts with no word of an automaton. Assumes nothing.
--
--   Clear ps s           no pattern of ps occurs in s
--   Free ps u v s        s begins with u, ends with v, and is clear of ps
--   FreeIs A ps u v o    o holds the bridge of the least such string, or nothing where there is none
--   Impossible .. r      for contexts of at most 50,000 letters that are clear, and a work table that is long enough: the
--                        answer r is the refusal 8 exactly when there is no such string
use Rattle.std.specs.Prelude.{◌≡◌, ℕ, ◌*◌, ◌≤◌, ◌↔◌, List, ◌++◌, length, Some, None, Err, Option, Result}
use Rattle.std.specs.List.{ContainsAt as Has}
use Rattle.faults.specs.declared.Fault.{Fault}
use Rattle.faults.specs.Causes.{no_string}
use Rattle.models.specs.Alphabet.{Alphabet}
use Rattle.models.specs.Strings.{Begins, Ends, Occurs, Least}
use Rattle.joinlaw.specs.Bridges.{Bridge, row}
use Rattle.joins.specs.declared.answers.Joined.{Joined}
use Rattle.listlaw.specs.Patterns.{coded, states}

abbrev pub Clear : {K : Type 0} → List (List K) → List K → Type 0
Clear {K} ps s = (p : List K) → Has ps p → Occurs p s → ⊥

abbrev pub Free : {K : Type 0} → List (List K) → List K → List K → List K → Type 0
Free {K} ps u v s = Begins u s × Ends v s × ((p : List K) → Has ps p → Occurs p s → ⊥)

abbrev pub FreeIs : {K : Type 0} → Alphabet K → List (List K) → List K → List K → Option (Bridge K) → Type 0
FreeIs A ps u v (Some b) = Least A.number (Free ps u v) (u ++ row b v)
FreeIs {K} A ps u v None = (s : List K) → Free ps u v s → ⊥

abbrev pub Impossible : {K : Type 0} → Alphabet K → List (List K) → List K → List K → ℕ → Result Joined Fault → Type 0
Impossible {K} A ps u v words r =
    4 * length (states (coded A ps)) ≤ words → length u ≤ 50000 → length v ≤ 50000 → Clear ps u → Clear ps v
    → (r ≡ Err (no_string 0)) ↔ ((s : List K) → Free ps u v s → ⊥)
