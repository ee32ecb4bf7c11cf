-- What a finished list answers. Assumes nothing.
--
--   stop_at, goes_to   whether a letter stops at a state, and where it leads, by the two tables; a list without patterns reads neither
--   listed_model ..    the automaton that they make
use Rattle.std.specs.Prelude.{ℕ, ◌+◌, ◌*◌, ◌≤◌, Bool, true, false, cond, List, ◌==◌, nat_lt, slice_index}
use Rattle.std.proofs.Common.{arith}
use Rattle.models.specs.Automaton.{Model}
use Rattle.listlaw.specs.Table.{table_model}
use Rattle.lists.specs.declared.record.Record.{Record}
use Rattle.lists.specs.Names.{rec}
use Rattle.lists.specs.Lists.{bit}

-- a number past the columns is no letter of the list
abbrev pub stop_at : List Record → ℕ → ℕ → ℕ → ℕ → Bool
stop_at ns columns taken q a = cond (nat_lt a columns) (cond (taken == 0) false (bit (rec ns q).ends a)) true

abbrev pub goes_to : List ℕ → ℕ → ℕ → ℕ → ℕ
goes_to words taken q a = cond (taken == 0) 0 (slice_index words (a * 512 + q))

abbrev pub listed_model : {K : Type 0} → (K → ℕ) → List Record → List ℕ → ℕ → ℕ → ℕ → ℕ → Model K
listed_model number ns words used columns taken memory = table_model number used (stop_at ns columns taken) (goes_to words taken) memory

-- as many states as an automaton may have
pub wider : (used : ℕ) → used ≤ 512 → used ≤ 4096
wider used h = omega arith
