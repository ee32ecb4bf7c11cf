-- A trace given to a sheet with one work table, of which a letter needs n words. Assumes nothing.
--
--   left-over n work es   what the work table holds after the letters and gaps es
--   brought n work es     each of es, with what the work table holds before it
--   one_more .. u e       the sheet and the text table, u before it, after the letter or gap e with a work table of `words` words
--   driven .. u es        the same after the letters and gaps es
use Rattle.std.specs.Prelude.{ℕ, List, [], ◌∷◌, length, Option}
use Rattle.models.specs.Automaton.{Model}
use Rattle.sheetlaw.specs.Step.{Contents, leaves, writes, leaves_gap, cleared}
use Rattle.sheetlaw.specs.declared.Event.{Event}
use Rattle.sheetlaw.specs.declared.Event.TheVariants.{Letter, Gap}

abbrev pub left_over : {K : Type 0} → ℕ → List ℕ → List (Event K) → List ℕ
left_over n work [] = work
left_over n work (Letter x ∷ es) = left_over n (cleared n work) es
left_over n work (Gap ∷ es) = left_over n work es

abbrev pub brought : {K : Type 0} → ℕ → List ℕ → List (Event K) → List (Event K × List ℕ)
brought n work [] = []
brought n work (Letter x ∷ es) = (Letter x, work) ∷ brought n (cleared n work) es
brought n work (Gap ∷ es) = (Gap, work) ∷ brought n work es

module _ {K : Type 0} (m : Model K) (k : ℕ) (row : List K → List K → Option (List K)) (words : ℕ) where
  abbrev pub one_more : Contents K × List K → Event K → Contents K × List K
  one_more u (Letter x) = (leaves m k row words (length u.1) u.0 x, writes m k row words u.0 x u.1)
  one_more u Gap = (leaves_gap u.0, u.1)

  abbrev pub driven : Contents K × List K → List (Event K) → Contents K × List K
  driven u [] = u
  driven u (e ∷ es) = driven (one_more u e) es
