-- What the join of two contexts finds. Assumes nothing.
--
--   Found K                        what came of two contexts: the automaton, the contexts' letters, the join and its text
--   said r                         what the code's finding says, its part of the text table read as letters
--   joining A m room words u v     what comes of the contexts u and v under the automaton m, with so much room in the text
--                                  table and so many words in the work table
--   settled A reads letters room words m r bs
--                                  what comes of the content bs of a trace line under the automaton m and the run limit r,
--                                  with so much room in the table of the contexts' letters
use Rattle.std.specs.Prelude.{ℕ, List, [], ◌++◌, length, Some, None, Ok, Err, Option, Result}
use Rattle.models.specs.Alphabet.{Alphabet}
use Rattle.models.specs.Automaton.{Model}
use Rattle.faults.specs.declared.Fault.{Fault}
use Rattle.joinlaw.specs.Bridges.{Bridge, row, join}
use Rattle.joins.specs.Answers.{answer}
use Rattle.joins.specs.declared.answers.Joined.{Joined}
use Rattle.stations.specs.Stations.{bind}
use Rattle.listings.specs.Listings.{limited}
use Rattle.joinings.specs.Contexts.{contexts}
use Rattle.joinings.specs.declared.finding.Finding.{Finding}

pub record Found (K : Type 0) : Type 0 where
  pub states : ℕ
  pub memory : ℕ
  pub left : ℕ
  pub right : ℕ
  pub overlap : ℕ
  pub filled : ℕ
  pub text : List K

abbrev pub said_of : {K : Type 0} → Finding K → Found K
said_of f = record { states = f.states; memory = f.memory; left = f.left; right = f.right; overlap = f.overlap; filled = f.filled; text = f.text.now }

abbrev pub said : {K : Type 0} → Result (Finding K) Fault → Result (Found K) Fault
said (Ok f) = Ok (said_of f)
said (Err e) = Err e

-- the string of a bridge between two contexts
abbrev pub string_of : {K : Type 0} → Option (Bridge K) → List K → List K → List K
string_of (Some b) u v = u ++ row b v
string_of None u v = []

abbrev pub found : {K : Type 0} → Model K → List K → List K → Joined → List K → Found K
found m u v j s = record { states = m.count; memory = m.memory; left = length u; right = length v; overlap = j.overlap; filled = j.filled; text = s }

abbrev pub joining : {K : Type 0} → Alphabet K → Model K → ℕ → ℕ → List K → List K → Result (Found K) Fault
joining A m room words u v = bind (answer A m u v room words) (λ j. Ok (found m u v j (string_of (join A m u v) u v)))

abbrev pub settled : {K : Type 0} → Alphabet K → (ℕ → Option K) → ℕ → ℕ → ℕ → Model K → Option ℕ → List ℕ → Result (Found K) Fault
settled A reads letters room words m r bs = bind (contexts reads letters bs) (λ c. limited m A r (λ m. joining A m room words c.0 c.1))
