-- A search forward through an automaton's states, by a queue. Assumes nothing.
--
-- Tables by place in the queue: q has the state, p the place of the state that led to it, l the number of the letter
-- between them. Places below head are done: every step from their states was tried.
--   Picks number fill pick    pick gives each letter of fill by its number, and no other letter
--   step_by pick m            the automaton's steps by the numbers of the letters that may be filled in
--   by xs i                   a table as a function of the place
--   PairLt a b c d            the pair (a, b) stands before the pair (c, d)
--   Queued q p l n u i c      u has a place below n, reached no later than by the letter c from the place i
--   Searched                  what the tables show between two steps
--   zeros xs                  how many states have no mark
--   Placed q n s              the state s has a place below n
--   Marked                    the marked states are those with a place
--   Paused, Going             the search between two states of the queue, and in the midst of the letters of one, of
--                             which those below c are done
--   Goalless goal h q         no state of a place below h is a goal
--   Found, Nothing, Explored  the first place whose state is a goal; no state that can be reached is one; either
use Rattle.std.specs.Prelude.{◌≡◌, ℕ, zero, suc, ◌+◌, ◌<◌, ◌≤◌, Bool, true, ◌⊎◌, List, [], ◌∷◌, Some, None, Option, ◌≢◌, slice_index}
use mathlib.Core.List.{Memᴰ}
use Rattle.models.specs.Automaton.{Next, Model}

-- from a state by a letter, if there is one
abbrev pub step_from : {K : Type 0} → Next K → ℕ → Option K → Option ℕ
step_from next q (Some x) = next q x
step_from next q None = None

pub record Picks {K : Type 0} (number : K → ℕ) (fill : List K) (pick : ℕ → Option K) : Type 0 where
  pub sound : (c : ℕ) (x : K) → pick c ≡ Some x → number x ≡ c
  pub within : (c : ℕ) (x : K) → pick c ≡ Some x → Memᴰ x fill
  pub all : (x : K) → Memᴰ x fill → pick (number x) ≡ Some x

abbrev pub step_by : {K : Type 0} → (ℕ → Option K) → Model K → Next ℕ
step_by pick m q c = step_from m.next q (pick c)

abbrev pub by : List ℕ → ℕ → ℕ
by xs i = slice_index xs i

abbrev pub PairLt : ℕ → ℕ → ℕ → ℕ → Type 0
PairLt a b c d = (a < c) ⊎ ((a ≡ c) × (b < d))

pub record Queued (q p l : ℕ → ℕ) (tail u i c : ℕ) : Type 0 where
  pub at : ℕ
  pub within : at < tail
  pub state : q at ≡ u
  pub early : (at ≡ 0) ⊎ (PairLt (p at) (l at) i c ⊎ ((p at ≡ i) × (l at ≡ c)))

pub record Searched (f : Next ℕ) (start head tail : ℕ) (q p l : ℕ → ℕ) : Type 0 where
  pub some : 0 < tail
  pub done : head ≤ tail
  pub first : q 0 ≡ start
  pub parent : (i : ℕ) → 0 < i → i < tail → p i < i
  pub goes : (i : ℕ) → 0 < i → i < tail → f (q (p i)) (l i) ≡ Some (q i)
  pub order : (i j : ℕ) → 0 < i → i < j → j < tail → PairLt (p i) (l i) (p j) (l j)
  pub closed : (i c u : ℕ) → i < head → f (q i) c ≡ Some u → Queued q p l tail u i c

abbrev pub zeros : List ℕ → ℕ
zeros [] = 0
zeros (zero ∷ xs) = suc (zeros xs)
zeros (suc x ∷ xs) = zeros xs

pub record Placed (q : ℕ → ℕ) (tail s : ℕ) : Type 0 where
  pub at : ℕ
  pub within : at < tail
  pub state : q at ≡ s

-- the marked states are those with a place, each its own
pub record Marked (n tail : ℕ) (seen : List ℕ) (q : ℕ → ℕ) : Type 0 where
  pub placed : (s : ℕ) → s < n → 0 < slice_index seen s → Placed q tail s
  pub states : (i : ℕ) → i < tail → q i < n
  pub count : zeros seen + tail ≡ n

pub record Paused (f : Next ℕ) (start n head tail : ℕ) (seen : List ℕ) (q p l : ℕ → ℕ) : Type 0 where
  pub searched : Searched f start head tail q p l
  pub latest : (i : ℕ) → 0 < i → i < tail → p i < head
  pub marked : Marked n tail seen q

pub record Going (f : Next ℕ) (start n head tail c : ℕ) (seen : List ℕ) (q p l : ℕ → ℕ) : Type 0 where
  pub searched : Searched f start head tail q p l
  pub tried : (d u : ℕ) → d < c → f (q head) d ≡ Some u → Queued q p l tail u head d
  pub latest : (i : ℕ) → 0 < i → i < tail → PairLt (p i) (l i) head c
  pub marked : Marked n tail seen q
  pub here : head < tail

abbrev pub Goalless : (ℕ → Bool) → ℕ → (ℕ → ℕ) → Type 0
Goalless goal h q = (i : ℕ) → i < h → goal (q i) ≢ true

pub record Found (f : Next ℕ) (goal : ℕ → Bool) (start : ℕ) (q p l : ℕ → ℕ) (head : ℕ) : Type 0 where
  pub tail : ℕ
  pub searched : Searched f start head tail q p l
  pub within : head < tail
  pub before : Goalless goal head q
  pub is_goal : goal (q head) ≡ true

pub record Nothing (f : Next ℕ) (goal : ℕ → Bool) (start : ℕ) (q p l : ℕ → ℕ) : Type 0 where
  pub tail : ℕ
  pub searched : Searched f start tail tail q p l
  pub before : Goalless goal tail q

abbrev pub Explored : Next ℕ → (ℕ → Bool) → ℕ → (ℕ → ℕ) → (ℕ → ℕ) → (ℕ → ℕ) → Option ℕ → Type 0
Explored f goal start q p l (Some head) = Found f goal start q p l head
Explored f goal start q p l None = Nothing f goal start q p l
