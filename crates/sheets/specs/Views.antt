-- A sheet as the definitions of a call have it. Assumes nothing.
--
--   contents s            what the sheet s holds
--   Keeps s t             the sheet t has the window length and the automaton of the sheet s
--   Stands A model t0 h s t
--                         the law holds of the sheet s and the text table t, which first held t0, after the calls h
--   answered, left_in, written_to
--                         what the letter x answers, and what it leaves in the sheet s and in the table t
use Rattle.std.specs.Prelude.{◌≡◌, ℕ, List, Result}
use Rattle.faults.specs.declared.Fault.{Fault}
use Rattle.models.specs.Alphabet.{Alphabet}
use Rattle.models.specs.Automaton.{Model}
use Rattle.sheetlaw.specs.Calls.{Turn}
use Rattle.sheetlaw.specs.Step.{Contents, answers, leaves, writes}
use Rattle.sheetlaw.specs.Law.{Followed}
use Rattle.sheetlaw.specs.NextRow.{row_of}
use Rattle.sheetlaw.specs.declared.Answer.{Answer}
use Rattle.sheets.specs.Stages.{shown, latest}
use Rattle.sheets.specs.declared.sheet.Sheet.{Sheet}

abbrev pub contents : {V K : Type 0} {gv : _} {gk : _} → Sheet V K gv gk → Contents K
contents s = record { running = shown s.running; latest = latest s.stage; taken = s.taken; counts = s.counts }

abbrev pub Keeps : {V K : Type 0} {gv : _} {gk : _} → Sheet V K gv gk → Sheet V K gv gk → Type 0
Keeps s t = (t.k ≡ s.k) × (t.automaton ≡ s.automaton)

module _ {V K : Type 0} (A : Alphabet K) (model : V → Model K) where
  abbrev pub Stands : {gv : _} {gk : _} → List K → List (Turn K) → Sheet V K gv gk → List K → Type 0
  Stands t0 h s t = Followed (model s.automaton) A.number s.k (row_of A (model s.automaton)) t0 h (contents s) t

  -- with a work table of so many words, and a text table with so much room
  abbrev pub answered : {gv : _} {gk : _} → Sheet V K gv gk → K → ℕ → ℕ → Result Answer Fault
  answered s x work room = answers (model s.automaton) s.k (row_of A (model s.automaton)) work room (contents s) x

  abbrev pub left_in : {gv : _} {gk : _} → Sheet V K gv gk → K → ℕ → ℕ → Contents K
  left_in s x work room = leaves (model s.automaton) s.k (row_of A (model s.automaton)) work room (contents s) x

  abbrev pub written_to : {gv : _} {gk : _} → Sheet V K gv gk → K → ℕ → List K → List K
  written_to s x work t = writes (model s.automaton) s.k (row_of A (model s.automaton)) work (contents s) x t
