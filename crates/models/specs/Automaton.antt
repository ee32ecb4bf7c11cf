-- What an automaton over a kind of letters is, and which strings it lets pass. Assumes nothing.
--
--   Model K         a table of numbered states, a first state, a next state or a stop for each state and letter, a memory
--   walk next q xs  the state after the letters xs from state q, or None where a step stops
--   run m xs        the walk of xs from m's first state
--   Pass m xs       the walk of xs from the first state meets no stop
--   stopped m xs    the place of the letter at which the walk of xs is stopped, or None
--   Lawful m        what every automaton owes
use Rattle.std.specs.Prelude.{◌≡◌, ℕ, ◌+◌, ◌-◌, ◌<◌, ◌≤◌, true, List, [], ◌∷◌, ◌++◌, length, drop, is_some, Some, None, Option}

abbrev pub Next : Type 0 → Type 0
Next K = ℕ → K → Option ℕ

-- go on from a state, if there is one
abbrev pub bind : Option ℕ → (ℕ → Option ℕ) → Option ℕ
bind (Some t) f = f t
bind None f = None

abbrev pub later : Option ℕ → Option ℕ
later (Some n) = Some (n + 1)
later None = None

-- a stop is at place 0, and one of what comes after a step is a place later
abbrev pub stop_or : Option ℕ → (ℕ → Option ℕ) → Option ℕ
stop_or (Some t) f = later (f t)
stop_or None f = Some 0

-- the last m letters
abbrev pub last : {K : Type 0} → ℕ → List K → List K
last m xs = drop (length xs - m) xs

module _ {K : Type 0} (next : Next K) where
  abbrev pub walk : ℕ → List K → Option ℕ
  walk q [] = Some q
  walk q (a ∷ xs) = bind (next q a) (λ t. walk t xs)

  abbrev pub Passes : ℕ → List K → Type 0
  Passes q xs = is_some (walk q xs) ≡ true

  abbrev pub stops : ℕ → List K → Option ℕ
  stops q [] = None
  stops q (a ∷ xs) = stop_or (next q a) (λ t. stops t xs)

  -- every part of a passing string passes
  abbrev pub Parts : ℕ → Type 0
  Parts q = (xs ys zs : List K) → Passes q (xs ++ (ys ++ zs)) → Passes q ys

  -- two passing strings that agree in their last m letters, both having at least m, lead to the same state
  abbrev pub Forgets : ℕ → ℕ → Type 0
  Forgets q m =
      (xs ys : List K) → Passes q xs → Passes q ys → m ≤ length xs → m ≤ length ys → last m xs ≡ last m ys → walk q xs ≡ walk q ys

pub record Model (K : Type 0) : Type 0 where
  pub count : ℕ
  pub start : ℕ
  pub next : Next K
  pub memory : ℕ

abbrev pub run : {K : Type 0} → Model K → List K → Option ℕ
run m xs = walk m.next m.start xs

abbrev pub Pass : {K : Type 0} → Model K → List K → Type 0
Pass m xs = Passes m.next m.start xs

abbrev pub stopped : {K : Type 0} → Model K → List K → Option ℕ
stopped m xs = stops m.next m.start xs

pub record Lawful {K : Type 0} (m : Model K) : Type 0 where
  -- 1 to 4,096 states, the first and every next state among them
  pub some : 1 ≤ m.count
  pub few : m.count ≤ 4096
  pub begins : m.start < m.count
  pub stays : (q : ℕ) (a : K) (t : ℕ) → m.next q a ≡ Some t → t < m.count
  -- a step from a number that is no state stops
  pub off : (q : ℕ) (a : K) → m.count ≤ q → m.next q a ≡ None
  pub parts : Parts m.next m.start
  pub forgets : Forgets m.next m.start m.memory
