-- A bridge that was found, with the letters of a filling left in the tables of the search. Assumes nothing.
--
--   told A w          the bridge that w tells
--   added v w         how many letters w appends for a right string of v letters
--   joined n w        what is answered for w, where the whole string has n letters
--   Short v w         the number of letters that w appends for v letters can be computed
--   Spells A t        the tables of t spell so many letters as it says
--   Fit A v w         w can be written for a right string of v letters
--   Within n w        the tables of w have n places
--   WayIs A n v o b   o tells the bridge b, and can be written from tables of n places; or there is none
use Rattle.std.specs.Prelude.{◌≡◌, ℕ, ◌+◌, ◌-◌, ◌^◌, ◌<◌, ◌≤◌, [], length, Some, None, Option}
use Rattle.models.specs.Alphabet.{Alphabet}
use Rattle.joinlaw.specs.Bridges.{Bridge}
use Rattle.joins.specs.Queue.{by}
use Rattle.joins.specs.Spelling.{spelling, Traced}
use Rattle.joins.specs.declared.answers.Joined.{Joined}
use Rattle.joins.specs.declared.trails.Trail.{Trail}
use Rattle.joins.specs.declared.ways.Way.{Way}
use Rattle.joins.specs.declared.ways.Way.TheVariants.{Overlap, Filling}

abbrev pub added : ℕ → Way → ℕ
added v (Overlap o) = v - o
added v (Filling t) = t.filled + v

abbrev pub joined : ℕ → Way → Joined
joined n (Overlap o) = record { length = n; overlap = o; filled = 0 }
joined n (Filling t) = record { length = n; overlap = 0; filled = t.filled }

abbrev pub Short : ℕ → Way → Type 0
Short v (Overlap o) = o ≤ v
Short v (Filling t) = t.filled + v < 2 ^ 63

abbrev pub Within : ℕ → Way → Type 0
Within n (Overlap o) = Unit {0}
Within n (Filling t) = length t.parents.now ≡ n

-- a filling at a place of the tables, of so many letters
pub record Spells {K : Type 0} (A : Alphabet K) (t : Trail) : Type 0 where
  pub even : length t.letters.now ≡ length t.parents.now
  pub within : t.place < length t.parents.now
  pub few : t.filled < length t.parents.now
  pub long : t.filled ≡ length (spelling A.letter (by t.parents.now) (by t.letters.now) t.place)
  pub traced : Traced A.letter (by t.parents.now) (by t.letters.now) t.place

module _ {K : Type 0} (A : Alphabet K) where
  abbrev pub told : Way → Bridge K
  told (Overlap o) = record { overlap = o; filling = [] }
  told (Filling t) = record { overlap = 0; filling = spelling A.letter (by t.parents.now) (by t.letters.now) t.place }

  abbrev pub Fit : ℕ → Way → Type 0
  Fit v (Overlap o) = o ≤ v
  Fit v (Filling t) = Spells A t

  abbrev pub WayIs : ℕ → ℕ → Option Way → Option (Bridge K) → Type 0
  WayIs n v (Some w) b = (b ≡ Some (told w)) × Fit v w × Within n w
  WayIs n v None b = b ≡ None
