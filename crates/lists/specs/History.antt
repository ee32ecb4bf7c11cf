-- A list as it takes patterns. Assumes nothing.
--
--   Holds A n m b ps   the list b, started on n records and m words, has taken the patterns ps over the letters of A, no others and in this order
--   Unchanged a b      the list b and its two tables are as those of a
use Rattle.std.specs.Prelude.{◌≡◌, ℕ, List}
use Rattle.models.specs.Alphabet.{Alphabet}
use Rattle.lists.specs.declared.builder.Builder.{Builder}
use Rattle.lists.specs.Taking.{Holding}

abbrev pub Holds : {K : Type 0} → Alphabet K → ℕ → ℕ → Builder K → List (List K) → Type 0
Holds A n m b ps = Holding A n m b.tree.records.now b.words.now b.tree.used b.taken b.longest ps

abbrev pub Unchanged : {K : Type 0} → Builder K → Builder K → Type 0
Unchanged a b = (b.tree.records.now ≡ a.tree.records.now) × (b.words.now ≡ a.words.now) × (b.tree.used ≡ a.tree.used) × (b.taken ≡ a.taken) × (b.longest ≡ a.longest)
