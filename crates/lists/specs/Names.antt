-- What the records spell. Assumes nothing.
--
--   blank           the record that stands for none
--   rec ns i        the record at i
--   with_end n m    the record n with the end marks m added
--   names ns used   the words of the states, in the order of their numbers, where `used` records are in use
--   Trie ns used    the records are a tree of distinct words, each hanging under the one that is a letter shorter
--   Under n ns used   the letters of the records are below n
--   Reached ..      what one letter more leaves
--   Entered ..      what the prefixes of a word leave
use Rattle.std.specs.Prelude.{◌≡◌, ℕ, ◌+◌, ◌<◌, ◌≤◌, List, [], ◌∷◌, ◌++◌, length, take, bit_or, slice_index, slice_index_or}
use Rattle.listlaw.specs.Patterns.{Word, gather, fronts, Places, with}
use Rattle.lists.specs.declared.record.Record.{Record}

abbrev pub blank : Record
blank = record { parent = 0; letter = 0; length = 0; link = 0; ends = 0 }

abbrev pub rec : List Record → ℕ → Record
rec ns i = slice_index_or ns i blank

-- a record with more end marks
abbrev pub with_end : Record → ℕ → Record
with_end n marks = record { parent = n.parent; letter = n.letter; length = n.length; link = n.link; ends = bit_or n.ends marks }

-- the words that records spell, each from those before it
abbrev pub grow : List Word → List Record → List Word
grow acc [] = acc
grow acc (n ∷ ns) = grow (acc ++ ((slice_index_or acc n.parent [] ++ (n.letter ∷ [])) ∷ [])) ns

-- the first record is the empty word, whatever it holds
abbrev pub spelled : List Record → List Word
spelled [] = [] ∷ []
spelled (n ∷ ns) = grow ([] ∷ []) ns

abbrev pub names : List Record → ℕ → List Word
names ns used = spelled (take used ns)

-- each state after the first hangs under an earlier one
abbrev pub Below : List Record → ℕ → Type 0
Below ns used = (i : ℕ) → 0 < i → i < used → (rec ns i).parent < i

-- and says how long its word is
abbrev pub Lengths : List Record → ℕ → Type 0
Lengths ns used = (i : ℕ) → 0 < i → i < used → (rec ns i).length ≡ length (slice_index_or (names ns used) i [])

-- a tree of more than the empty word lies in records that are enough for any
abbrev pub Trie : List Record → ℕ → Type 0
Trie ns used = (1 ≤ used) × (used ≤ 512) × Below ns used × Lengths ns used × Places (names ns used) × (1 < used → 512 ≤ length ns)

abbrev pub Under : ℕ → List Record → ℕ → Type 0
Under n ns used = (i : ℕ) → 0 < i → i < used → (rec ns i).letter < n

-- the records below `used` are as they were, and those from there on have no end mark
abbrev pub Fresh : List Record → List Record → ℕ → ℕ → Type 0
Fresh old ns used more = ((i : ℕ) → i < used → rec ns i ≡ rec old i) × ((i : ℕ) → used ≤ i → i < more → (rec ns i).ends ≡ 0)

-- the state `at` has the word of `under` and a, and nothing else is new
pub record Reached (old ns : List Record) (used under a at more : ℕ) : Type 0 where
  pub inside : at < more
  pub word : slice_index_or (names ns more) at [] ≡ slice_index_or (names old used) under [] ++ (a ∷ [])
  pub states : names ns more ≡ with (names old used) (slice_index_or (names old used) under [] ++ (a ∷ []))
  pub letters : (n : ℕ) → Under n old used → a < n → Under n ns more
  pub fresh : Fresh old ns used more
  pub grows : used ≤ more

-- the prefixes of w up to k letters are states, the longest of them is `at`, and nothing else is new
pub record Entered (old ns : List Record) (used : ℕ) (w : Word) (k at more : ℕ) : Type 0 where
  pub inside : at < more
  pub word : slice_index_or (names ns more) at [] ≡ take k w
  pub states : names ns more ≡ gather (names old used) (fronts (take (k + 1) w))
  pub letters : (n : ℕ) → Under n old used → ((i : ℕ) → i < length w → slice_index w i < n) → Under n ns more
  pub fresh : Fresh old ns used more
  pub grows : used ≤ more
