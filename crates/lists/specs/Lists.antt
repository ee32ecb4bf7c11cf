-- What the two tables of a list hold. Assumes nothing.
--
--   bit m a           whether the letter a is among the end marks m
--   columns words     how many letters the words have room for, 32 at most
--   Marks ns used ps  the end marks say where the patterns ps end
--   Lists ..          the records hold the states and the ends of the patterns ps
--   Held ..           they do so for some patterns
use Rattle.std.specs.Prelude.{◌≡◌, ℕ, ◌/◌, ◌%◌, ◌^◌, ◌<◌, ◌≤◌, min, Bool, true, List, [], ◌∷◌, ◌++◌, length, ◌==◌, slice_index_or}
use Rattle.listlaw.specs.Patterns.{Word, member, states, extent}
use Rattle.lists.specs.declared.record.Record.{Record}
use Rattle.lists.specs.Names.{rec, names}

abbrev pub bit : ℕ → ℕ → Bool
bit m a = m / 2 ^ a % 2 == 1

abbrev pub columns : List ℕ → ℕ
columns words = min 32 (length words / 512)

-- the letter a is marked at a state exactly if the state's word and a are a pattern
abbrev pub Marks : List Record → ℕ → List Word → Type 0
Marks ns used ps = (q a : ℕ) → q < used → a < 32 → bit (rec ns q).ends a ≡ member ps (slice_index_or (names ns used) q [] ++ (a ∷ []))

pub record Lists (ns : List Record) (used taken longest : ℕ) (ps : List Word) : Type 0 where
  pub names : names ns used ≡ states ps
  pub count : taken ≡ length ps
  pub extent : longest ≡ extent ps
  pub solid : (p : Word) → member ps p ≡ true → 1 ≤ length p
  -- a table that is too short keeps no marks, since it takes no pattern
  pub marks : 512 ≤ length ns → Marks ns used ps

abbrev pub Held : List Record → ℕ → ℕ → ℕ → Type 0
Held ns used taken longest = ∥ ((ps : List Word) × Lists ns used taken longest ps) ∥₁
