-- The records and the words as a list is finished, shorter prefixes first. Assumes nothing.
--
--   tied n f marks     the record n with the failure link f and the end marks of that state added
--   Before ws d i q    the state q comes before the states of d letters from number i on
--   Shape .. d i       the states before those have their failure links, and their words say where each letter leads
--   Endings .. d i ps  and their end marks say where a pattern of ps is a suffix, those of the others where one ends
--   Planted ..         what `plant` leaves of the words of one state
use Rattle.std.specs.Prelude.{◌≡◌, ℕ, ◌+◌, ◌*◌, ◌<◌, ◌≤◌, true, ◌⊎◌, List, [], ◌∷◌, ◌++◌, length, drop, ◌≢◌, bit_or, slice_index, slice_index_or}
use Rattle.listlaw.specs.Patterns.{Word, member, states, hit, longest}
use Rattle.lists.specs.declared.record.Record.{Record}
use Rattle.lists.specs.Names.{rec, names}
use Rattle.lists.specs.Lists.{bit, columns}

abbrev pub tied : Record → ℕ → ℕ → Record
tied n f marks = record { parent = n.parent; letter = n.letter; length = n.length; link = f; ends = bit_or n.ends marks }

abbrev pub Before : List Word → ℕ → ℕ → ℕ → Type 0
Before ws d i q = (length (slice_index_or ws q []) < d) ⊎ ((length (slice_index_or ws q []) ≡ d) × (q < i))

pub record Shape (ns : List Record) (words : List ℕ) (used d i : ℕ) : Type 0 where
  -- the failure link is the longest proper suffix that is a state
  pub links : (q : ℕ) → 0 < q → q < used → Before (names ns used) d i q → (rec ns q).link ≡ longest (names ns used) (drop 1 (slice_index_or (names ns used) q []))
  -- a letter leads to the longest suffix of the state and the letter that is a state
  pub rows : (q a : ℕ) → q < used → a < columns words → Before (names ns used) d i q → slice_index words (a * 512 + q) ≡ longest (names ns used) (slice_index_or (names ns used) q [] ++ (a ∷ []))

pub record Endings (ns : List Record) (used d i : ℕ) (ps : List Word) : Type 0 where
  pub spelt : names ns used ≡ states ps
  pub solid : (p : Word) → member ps p ≡ true → 1 ≤ length p
  pub done : (q a : ℕ) → q < used → a < 32 → Before (names ns used) d i q → bit (rec ns q).ends a ≡ hit ps (slice_index_or (names ns used) q [] ++ (a ∷ []))
  pub left : (q a : ℕ) → q < used → a < 32 → (Before (names ns used) d i q → ⊥) → bit (rec ns q).ends a ≡ member ps (slice_index_or (names ns used) q [] ++ (a ∷ []))

-- the words of the states other than q are as they were
abbrev pub Others : List ℕ → List ℕ → ℕ → Type 0
Others old words q = (a s : ℕ) → s < 512 → (s ≢ q) → slice_index words (a * 512 + s) ≡ slice_index old (a * 512 + s)

-- the letter a of q leads to a child of it among the first j records, or as before if there is none
abbrev pub Planted : List Record → List ℕ → List ℕ → ℕ → ℕ → ℕ → Type 0
Planted ns old words q j a =
    ((i : ℕ) × (0 < i) × (i < j) × ((rec ns i).parent ≡ q) × ((rec ns i).letter ≡ a) × (slice_index words (a * 512 + q) ≡ i))
    ⊎ (((i : ℕ) → 0 < i → i < j → (rec ns i).parent ≡ q → (rec ns i).letter ≢ a) × (slice_index words (a * 512 + q) ≡ slice_index old (a * 512 + q)))
