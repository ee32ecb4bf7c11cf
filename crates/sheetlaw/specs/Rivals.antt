-- Strings that have windows in order. Assumes nothing.
--
--   At w p s      w stands in s at the place p: from there on s begins with w
--   Rises s n ws  the windows ws stand in s at strictly rising places, one for each, from the place n on
--   Has ws s      s has the windows ws in order
--   Rival m ws s  s passes the automaton m and has the windows ws in order
use Rattle.std.specs.Prelude.{ℕ, ◌+◌, ◌≤◌, List, [], ◌∷◌, drop}
use Rattle.models.specs.Automaton.{Model, Pass}
use Rattle.models.specs.Strings.{Begins}

abbrev pub At : {K : Type 0} → List K → ℕ → List K → Type 0
At w p s = Begins w (drop p s)

abbrev pub Rises : {K : Type 0} → List K → ℕ → List (List K) → Type 0
Rises s n [] = Unit {0}
Rises s n (w ∷ ws) = (p : ℕ) × (n ≤ p) × At w p s × Rises s (p + 1) ws

abbrev pub Has : {K : Type 0} → List (List K) → List K → Type 0
Has ws s = Rises s 0 ws

abbrev pub Rival : {K : Type 0} → Model K → List (List K) → List K → Type 0
Rival m ws s = Pass m s × Has ws s
