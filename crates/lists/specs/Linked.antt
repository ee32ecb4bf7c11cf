-- A tree and its words as a list is finished. Assumes nothing.
--
--   word l q         the word of the state q
--   Linked l d i     the states before those of d letters from number i on have their failure links, and their words say where each letter leads
--   Ended l d i ps   and their end marks say where a pattern of ps is a suffix, those of the others where one ends
--   Kept a b         b has the states of a, and words for as many letters
use Rattle.std.specs.Prelude.{◌≡◌, ℕ, List, [], length, slice_index_or}
use Rattle.listlaw.specs.Patterns.{Word}
use Rattle.lists.specs.declared.links.Links.{Links}
use Rattle.lists.specs.Names.{names}
use Rattle.lists.specs.Links.{Shape, Endings}

abbrev pub word : Links → ℕ → Word
word l q = slice_index_or (names l.tree.records.now l.tree.used) q []

abbrev pub Linked : Links → ℕ → ℕ → Type 0
Linked l d i = Shape l.tree.records.now l.words.now l.tree.used d i

abbrev pub Ended : Links → ℕ → ℕ → List Word → Type 0
Ended l d i ps = Endings l.tree.records.now l.tree.used d i ps

abbrev pub Kept : Links → Links → Type 0
Kept a b = (b.tree.used ≡ a.tree.used) × (names b.tree.records.now b.tree.used ≡ names a.tree.records.now a.tree.used) × (length b.words.now ≡ length a.words.now)
