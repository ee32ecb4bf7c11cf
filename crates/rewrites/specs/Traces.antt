-- A trace given to a sheet, byte by byte. Assumes nothing.
--
--   Fed K                     what a stretch of the trace answers, and what it leaves in the sheet and in the text table
--   fed_as r s t              it answers r, and leaves s in the sheet and t in the table
--   fed_byte .. i b s t       the byte b at the place i: `?` is a gap, a letter is given to the sheet, any other byte is refused
--   fed .. i bs s t           the bytes bs from the place i on, up to the first that is refused
--   Sheeted                   what a rewritten trace comes to: the text as bytes, and the counts
--   sheeted number printed c t
--                             the counts c and their text, which is the front of the table t
--   told .. r t               the same of an answer r, which may be a refusal
--   rewritten .. m k bs t     what the trace bs comes to on a sheet of its own with the automaton m and windows of k letters
--
-- A letter is taken with `work` words in its work table. What the sheet does with a letter or a gap is sheetlaw's.
use Rattle.std.specs.Prelude.{ℕ, ◌+◌, cond, List, [], ◌∷◌, map, length, take, Some, None, Ok, Err, Option, Result, ◌==◌}
use Rattle.faults.specs.declared.Fault.{Fault}
use Rattle.faults.specs.Causes.{no_letter}
use Rattle.models.specs.Alphabet.{Alphabet}
use Rattle.models.specs.Automaton.{Model}
use Rattle.sheetlaw.specs.Step.{Contents, opening, close, answers, leaves, writes, pauses, leaves_gap}
use Rattle.sheetlaw.specs.NextRow.{row_of}
use Rattle.sheetlaw.specs.declared.Counts.{Counts}
use Rattle.stations.specs.Stations.{bind}
use Rattle.texts.specs.Texts.{reading}

pub record Fed (K : Type 0) : Type 0 where
  pub answer : Result (Unit {0}) Fault
  pub sheet : Contents K
  pub table : List K

abbrev pub fed_as : {K : Type 0} → Result (Unit {0}) Fault → Contents K → List K → Fed K
fed_as r s t = record { answer = r; sheet = s; table = t }

-- whether a letter was refused, whatever it answered
abbrev pub refusal : {T : Type 0} → Result T Fault → Result (Unit {0}) Fault
refusal (Ok a) = Ok tt
refusal (Err f) = Err f

abbrev pub fed_gap : {K : Type 0} → Contents K → List K → Fed K
fed_gap s t = fed_as (pauses s) (leaves_gap s) t

-- what is taken stands, and the work goes on; a refusal ends it
abbrev pub go_on : {K : Type 0} → Result (Unit {0}) Fault → Contents K → List K → (Contents K → List K → Fed K) → Fed K
go_on (Ok a) s t go = go s t
go_on (Err f) s t go = fed_as (Err f) s t

module _ {K : Type 0} (A : Alphabet K) (parsed : ℕ → Option ℕ) (m : Model K) (k work : ℕ) where
  unfoldable pub fed_letter : ℕ → Option K → Contents K → List K → Fed K
  fed_letter i (Some x) s t = fed_as (refusal (answers m k (row_of A m) work (length t) s x)) (leaves m k (row_of A m) work (length t) s x) (writes m k (row_of A m) work s x t)
  fed_letter i None s t = fed_as (Err (no_letter i)) s t

  abbrev pub fed_byte : ℕ → ℕ → Contents K → List K → Fed K
  fed_byte i b s t = cond (b == 63) (fed_gap s t) (fed_letter i (reading A parsed b) s t)

  unfoldable pub fed : ℕ → List ℕ → Contents K → List K → Fed K
  fed i [] s t = fed_as (Ok tt) s t
  fed i (b ∷ bs) s t =
      let f = fed_byte i b s t in go_on f.answer f.sheet f.table (fed (i + 1) bs)

pub record Sheeted : Type 0 where
  pub text : List ℕ
  pub counts : Counts

abbrev pub sheeted : {K : Type 0} → (K → ℕ) → (ℕ → ℕ) → Counts → List K → Sheeted
sheeted number printed c t = record { text = map (λ x. printed (number x)) (take c.text t); counts = c }

abbrev pub told : {K E : Type 0} → (K → ℕ) → (ℕ → ℕ) → Result Counts E → List K → Result Sheeted E
told number printed (Ok c) t = Ok (sheeted number printed c t)
told number printed (Err e) t = Err e

module _ {K : Type 0} (A : Alphabet K) (parsed : ℕ → Option ℕ) (printed : ℕ → ℕ) (work : ℕ) where
  abbrev pub closed : Fed K → Result Sheeted Fault
  closed f = bind f.answer (λ _. Ok (sheeted A.number printed (close f.sheet) f.table))

  unfoldable pub rewritten : Model K → ℕ → List ℕ → List K → Result Sheeted Fault
  rewritten m k bs t = bind (opening m k) (λ s. closed (fed A parsed m k work 0 bs s t))
