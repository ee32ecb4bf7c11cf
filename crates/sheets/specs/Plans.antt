-- What was decided for a letter, with the row of a kept window left in the tables of the search. Assumes nothing.
--
--   planned A w o          the outcome that the plan o tells, for the window w
--   Ready .. o             the plan o can be carried out: for a window w where k letters make one, in a text table with so
--                          much room, from the place end on; at most 4,096 letters are filled in
--   PlanIs .. r d          r tells the decision d, and can be carried out; or it is refused as d is
--   RowIs A w r o          r tells the row o to the window w, with at most 4,096 letters filled in, and can be written; or
--                          there is none
--   counted k c o          the counts c after the plan o
--   moved k s e            the contents s after the letter or gap e, before anything is kept or counted
use Rattle.std.specs.Prelude.{◌≡◌, ℕ, ◌+◌, ◌-◌, ◌<◌, ◌≤◌, List, [], length, Some, None, Ok, Err, Option, Result}
use Rattle.faults.specs.declared.Fault.{Fault}
use Rattle.models.specs.Alphabet.{Alphabet}
use Rattle.joinlaw.specs.Bridges.{row}
use Rattle.joins.specs.Ways.{told, added, Fit}
use Rattle.joins.specs.declared.ways.Way.{Way}
use Rattle.sheetlaw.specs.Step.{Contents, Outcome, wait, skip, keep, window}
use Rattle.sheetlaw.specs.declared.Counts.{Counts}
use Rattle.sheetlaw.specs.declared.Event.{Event}
use Rattle.sheetlaw.specs.declared.Event.TheVariants.{Letter, Gap}
use Rattle.sheets.specs.declared.plan.Plan.{Plan}
use Rattle.sheets.specs.declared.plan.Plan.TheVariants.{Wait, Skip, Keep}

module _ {K : Type 0} (A : Alphabet K) where
  abbrev pub planned : List K → Plan → Outcome K
  planned w Wait = wait
  planned w Skip = skip
  planned w (Keep way n) = keep w (row (told A way) w)

  abbrev pub Ready : (k : ℕ) → List K → (end room : ℕ) → Plan → Type 0
  Ready k w end room Wait = length w < k
  Ready k w end room Skip = length w ≡ k
  Ready k w end room (Keep way a) = (length w ≡ k) × Fit A (length w) way × (a ≡ added (length w) way) × (end + a ≤ room) × (a ≤ 4096 + length w)

  abbrev pub PlanIs : (k : ℕ) → List K → (end room : ℕ) → Result Plan Fault → Result (Outcome K) Fault → Type 0
  PlanIs k w end room (Ok o) d = (d ≡ Ok (planned w o)) × Ready k w end room o
  PlanIs k w end room (Err f) d = d ≡ Err f

  abbrev pub RowIs : List K → Option Way → Option (List K) → Type 0
  RowIs w (Some way) o = (o ≡ Some (row (told A way) w)) × Fit A (length w) way × (added (length w) way ≤ 4096 + length w)
  RowIs w None o = o ≡ None

abbrev pub counted : ℕ → Counts → Plan → Counts
counted k c Wait = record { letters = c.letters + 1; kept = c.kept; skipped = c.skipped; text = c.text; filled = c.filled }
counted k c Skip = record { letters = c.letters + 1; kept = c.kept; skipped = c.skipped + 1; text = c.text; filled = c.filled }
counted k c (Keep way n) = record { letters = c.letters + 1; kept = c.kept + 1; skipped = c.skipped; text = c.text + n; filled = c.filled + (n - k) }

-- a plan appends at most so many letters
abbrev pub Few : Plan → Type 0
Few Wait = Unit {0}
Few Skip = Unit {0}
Few (Keep way n) = n ≤ 4200

abbrev pub moved : {K : Type 0} → ℕ → Contents K → Event K → Contents K
moved k s (Letter x) = record { running = window k s x; latest = s.latest; taken = s.taken + 1; counts = s.counts }
moved k s Gap = record { running = []; latest = s.latest; taken = s.taken + 1; counts = s.counts }
