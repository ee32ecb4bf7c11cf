use Rattle.std.proofs.Common.{◌≡◌, ℕ, take, Some, Option}
use Rattle.models.specs.Automaton.{Next, walk}
use Rattle.automata.proofs.stop_place.Given as goal

-- it may be called, and the items so far lead to the state
abbrev pub invariant-loop-i : goal.invariant-loop-i
invariant-loop-i g l =
    (next : Next _) → ((q : ℕ) (x : _) (o : Option ℕ) → goal.F-post g l.step q x o → o ≡ next q x) → walk next l.from (take l.i l.items) ≡ Some l.at
