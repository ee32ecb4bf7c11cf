-- What a join is, and what the next row of a text is, with no word of overlap and filling; and that these come to the same. Assumes nothing.
--
--   FillingIs n m f q v o  o holds the least string over f that fills before v from the state q, shorter than there are
--                          states, or nothing where none fills
--   Joins m u v s          s begins with u, ends with v and passes
--   JoinIs A m u v o       o holds the bridge of the least string that joins, or nothing where none does
--   Continues m t v x      x has a letter, and the text t with x after it passes and ends with v
--   NextRowIs A m t v o    o holds the bridge of the least row that continues t, or nothing where none does
--   Follows m t u v        t is a passing text that ends with the window u, v is as long as u, and the memory is at most as long
use Rattle.std.specs.Prelude.{◌≡◌, ℕ, ◌<◌, ◌≤◌, List, ◌++◌, length, Some, None, Option}
use Rattle.models.specs.Alphabet.{Alphabet}
use Rattle.models.specs.Automaton.{Model, Lawful, Pass}
use Rattle.models.specs.Strings.{Begins, Ends, Least}
use Rattle.joinlaw.specs.Words.{Ascending}
use Rattle.joinlaw.specs.Bridges.{filling, Fills, Bridge, row, join, next_row}

abbrev pub FillingIs : {K : Type 0} → (K → ℕ) → Model K → List K → ℕ → List K → Option (List K) → Type 0
FillingIs number m fill q v (Some z) = Least number (Fills m fill q v) z × (length z < m.count)
FillingIs {K} number m fill q v None = (z : List K) → Fills m fill q v z → ⊥

abbrev pub Joins : {K : Type 0} → Model K → List K → List K → List K → Type 0
Joins m u v s = Begins u s × Ends v s × Pass m s

abbrev pub JoinIs : {K : Type 0} → Alphabet K → Model K → List K → List K → Option (Bridge K) → Type 0
JoinIs A m u v (Some b) = Least A.number (Joins m u v) (u ++ row b v) × (length b.filling < m.count)
JoinIs {K} A m u v None = (s : List K) → Joins m u v s → ⊥

abbrev pub Continues : {K : Type 0} → Model K → List K → List K → List K → Type 0
Continues m t v x = (1 ≤ length x) × Pass m (t ++ x) × Ends v (t ++ x)

abbrev pub NextRowIs : {K : Type 0} → Alphabet K → Model K → List K → List K → Option (Bridge K) → Type 0
NextRowIs A m t v (Some b) = Least A.number (Continues m t v) (row b v) × (length b.filling < m.count)
NextRowIs {K} A m t v None = (x : List K) → Continues m t v x → ⊥

pub record Follows {K : Type 0} (m : Model K) (t u v : List K) : Type 0 where
  pub passes : Pass m t
  pub ends : Ends u t
  pub some : 1 ≤ length v
  pub long : length u ≡ length v
  pub memory : m.memory ≤ length v

-- for every automaton and any letters that may be filled in, in ascending order: the filling is the shortest string that
-- fills, the first in letter order among equals, and there is none exactly where no string of any length fills
abbrev pub FillingLaw : {K : Type 0} → Alphabet K → Type 0
FillingLaw {K} A =
    (m : Model K) → Lawful m → (fill : List K) → Ascending A.number fill → (q : ℕ) → q < m.count → (v : List K) → FillingIs A.number m fill q v (filling m fill q v)

-- for every automaton: the join by overlap and filling is the shortest passing string between the contexts, the first
-- in letter order among equals, and there is none exactly where no such string of any length exists
abbrev pub JoinLaw : {K : Type 0} → Alphabet K → Type 0
JoinLaw {K} A = (m : Model K) → Lawful m → (u v : List K) → JoinIs A m u v (join A m u v)

-- no other string is the least that joins
abbrev pub JoinOnce : {K : Type 0} → Alphabet K → Type 0
JoinOnce {K} A = (m : Model K) → Lawful m → (u v s : List K) → Least A.number (Joins m u v) s → (b : Bridge K) × (join A m u v ≡ Some b) × (s ≡ u ++ row b v)

-- the row that brings a text to its next window is the least that does, and there is none exactly where none does
abbrev pub NextRowLaw : {K : Type 0} → Alphabet K → Type 0
NextRowLaw {K} A = (m : Model K) → Lawful m → (t u v : List K) → Follows m t u v → NextRowIs A m t v (next_row A m u v)
