-- What the computed words of Patterns say, as relations between strings. Assumes nothing.
--
--   State ps w     w is the empty word or a proper prefix of a pattern
--   StatesRight    the states are exactly these words, each once
--   HitRight       hit says whether a pattern is a suffix
--   LongestRight   longest gives the longest suffix that is a state
use Rattle.std.specs.Prelude.{◌≡◌, ℕ, ◌<◌, ◌≤◌, true, ◌⊎◌, List, [], ◌∷◌, ◌++◌, length, slice_index_or}
use Rattle.std.specs.List.{ContainsAt as Has}
use Rattle.models.specs.Strings.{Ends}
use Rattle.listlaw.specs.Patterns.{Word, states, hit, longest}

abbrev pub State : List Word → Word → Type 0
State ps w = (w ≡ []) ⊎ ((p : Word) × (Has ps p × ((c : ℕ) × ((rest : Word) × (p ≡ w ++ (c ∷ rest))))))

pub record StatesRight (ps : List Word) : Type 0 where
  pub from : (i : ℕ) → i < length (states ps) → State ps (slice_index_or (states ps) i [])
  pub all : (w : Word) → State ps w → Has (states ps) w
  pub apart : (i j : ℕ) → i < length (states ps) → j < length (states ps) → slice_index_or (states ps) i [] ≡ slice_index_or (states ps) j [] → i ≡ j

pub record HitRight (ps : List Word) (t : Word) : Type 0 where
  pub found : hit ps t ≡ true → (p : Word) × (Has ps p × Ends p t)
  pub finds : (p : Word) → Has ps p → Ends p t → hit ps t ≡ true

pub record LongestRight (ps : List Word) (t : Word) : Type 0 where
  pub inside : longest (states ps) t < length (states ps)
  pub ends : Ends (slice_index_or (states ps) (longest (states ps) t) []) t
  pub most : (r : Word) → State ps r → Ends r t → length r ≤ length (slice_index_or (states ps) (longest (states ps) t) [])

abbrev pub WordsStand : Type 0
WordsStand = (ps : List Word) → StatesRight ps × ((t : Word) → HitRight ps t × LongestRight ps t)
