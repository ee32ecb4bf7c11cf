-- How a string goes on from a left string u so that it ends with a right string v. Assumes nothing.
--
--   same number xs ys           the same letters, compared by number
--   serves m v q                v can be walked from state q
--   merges A m q u v o          the last o letters of u are the first o of v, and the rest of v can be walked from state q
--   overlap A m q u v most      the largest o from 1 to most that merges, if there is one
--   filling m fill q v          the first in letter order of the shortest strings over fill after which v can be walked from q
--   Fills m fill q v z          z is a string over fill after which v can be walked from q
--   Bridge                      an overlap, and the letters filled in before what is left of v
--   bridge A m fill u v most    the overlap of at most so many letters if there is one, else no overlap and the filling
--   row b v                     what a bridge appends to u
--   join A m u v                the bridge of two contexts: all of either may overlap, and every letter may be filled in
--   next_row A m u v            the bridge from one window to the next: all but one letter may overlap
use Rattle.std.specs.Prelude.{ℕ, zero, suc, ◌-◌, min, Bool, true, false, cond, ◌&&◌, List, [], ◌∷◌, ◌++◌, length, take, drop, is_some, Some, None, Option, ◌==◌}
use Rattle.models.specs.Alphabet.{Alphabet}
use Rattle.models.specs.Automaton.{Model, walk, run, Passes, last}
use Rattle.joinlaw.specs.Words.{letters, Over, words_below, first_that}

abbrev pub same : {K : Type 0} → (K → ℕ) → List K → List K → Bool
same number [] [] = true
same number [] (y ∷ ys) = false
same number (x ∷ xs) [] = false
same number (x ∷ xs) (y ∷ ys) = number x == number y && same number xs ys

abbrev pub serves : {K : Type 0} → Model K → List K → ℕ → Bool
serves m v q = is_some (walk m.next q v)

abbrev pub merges : {K : Type 0} → Alphabet K → Model K → ℕ → List K → List K → ℕ → Bool
merges A m q u v o = same A.number (last o u) (take o v) && serves m (drop o v) q

abbrev pub overlap : {K : Type 0} → Alphabet K → Model K → ℕ → List K → List K → ℕ → Option ℕ
overlap A m q u v zero = None
overlap A m q u v (suc o) = cond (merges A m q u v (suc o)) (Some (suc o)) (overlap A m q u v o)

unfoldable pub filling : {K : Type 0} → Model K → List K → ℕ → List K → Option (List K)
filling m fill q v = first_that (λ z. serves m (z ++ v) q) (words_below fill m.count)

abbrev pub Fills : {K : Type 0} → Model K → List K → ℕ → List K → List K → Type 0
Fills m fill q v z = Over fill z × Passes m.next q (z ++ v)

pub record Bridge (K : Type 0) : Type 0 where
  pub overlap : ℕ
  pub filling : List K

abbrev pub filled : {K : Type 0} → Option (List K) → Option (Bridge K)
filled (Some z) = Some (record { overlap = 0; filling = z })
filled None = None

abbrev pub overlap_or : {K : Type 0} → Option ℕ → Option (List K) → Option (Bridge K)
overlap_or (Some o) f = Some (record { overlap = o; filling = [] })
overlap_or None f = filled f

-- from the state after u, if there is one
abbrev pub bridge_from : {K : Type 0} → Alphabet K → Model K → List K → List K → List K → ℕ → Option ℕ → Option (Bridge K)
bridge_from A m fill u v most (Some q) = overlap_or (overlap A m q u v most) (filling m fill q v)
bridge_from A m fill u v most None = None

unfoldable pub bridge : {K : Type 0} → Alphabet K → Model K → List K → List K → List K → ℕ → Option (Bridge K)
bridge A m fill u v most = bridge_from A m fill u v most (run m u)

abbrev pub row : {K : Type 0} → Bridge K → List K → List K
row b v = b.filling ++ drop b.overlap v

abbrev pub join : {K : Type 0} → Alphabet K → Model K → List K → List K → Option (Bridge K)
join A m u v = bridge A m (letters A) u v (min (length u) (length v))

abbrev pub next_row : {K : Type 0} → Alphabet K → Model K → List K → List K → Option (Bridge K)
next_row A m u v = bridge A m (letters A) u v (length v - 1)
