-- Patterns by the numbers of their letters. Assumes nothing.
--
--   Spells first count p   `first` has the first 12 numbers of p, or all if there are fewer, and p has `count`
use Rattle.std.specs.Prelude.{◌≡◌, ℕ, List, length, take}

abbrev pub Spells : List ℕ → ℕ → List ℕ → Type 0
Spells first count p = (length first ≡ 12) × (count ≡ length p) × (take count first ≡ take 12 p)
