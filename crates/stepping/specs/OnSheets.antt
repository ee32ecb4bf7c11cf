-- Calls on a sheet, as the definitions have them. Assumes nothing.
--
--   Fresh A model v k s                  the sheet s was opened on the automaton v with windows of k letters, and given nothing
--   call_on A model s t work e           the letter or gap e on the sheet s, with the text table t and this work table
--   calls_after A model s work es t0 h   the calls h and then the letters and gaps es, on the sheet s; the text table first
--                                        held t0, and the first of es brings this work table
use Rattle.std.specs.Prelude.{◌≡◌, ℕ, List, []}
use Rattle.models.specs.Alphabet.{Alphabet}
use Rattle.models.specs.Automaton.{Model}
use Rattle.sheetlaw.specs.Calls.{Turn}
use Rattle.sheetlaw.specs.Step.{needs}
use Rattle.sheetlaw.specs.Runs.{turns}
use Rattle.sheetlaw.specs.NextRow.{row_of}
use Rattle.sheetlaw.specs.declared.Event.{Event}
use Rattle.sheets.specs.Views.{contents, Stands}
use Rattle.sheets.specs.declared.sheet.Sheet.{Sheet}
use Rattle.drives.specs.Traces.{brought}
use Rattle.stepping.specs.Steps.{call}

-- the law holds of it with no calls made, whatever text table comes first
abbrev pub Fresh : {V K : Type 0} {gv : _} {gk : _} → Alphabet K → (V → Model K) → V → ℕ → Sheet V K gv gk → Type 0
Fresh {V} {K} A model v k s = (s.k ≡ k) × (s.automaton ≡ v) × ((t : List K) → Stands A model t [] s t)

module _ {V K : Type 0} {gv : _} {gk : _} (A : Alphabet K) (model : V → Model K) (s : Sheet V K gv gk) where
  abbrev pub call_on : List K → List ℕ → Event K → Turn K
  call_on t work e = call (model s.automaton) s.k (row_of A (model s.automaton)) (contents s) t e work

  abbrev pub calls_after : List ℕ → List (Event K) → List K → List (Turn K) → List (Turn K)
  calls_after work es t0 h = turns (model s.automaton) s.k (row_of A (model s.automaton)) t0 h (brought (needs (model s.automaton)) work es)
