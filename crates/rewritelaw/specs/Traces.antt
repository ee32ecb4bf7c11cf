-- A trace given to a sheet, byte by byte. Assumes nothing.
--
--   Fed K                     what a stretch of the trace answers, and what it leaves in the sheet, in the text table and in
--                             the work table
--   fed_as r s t v            it answers r, and leaves s in the sheet, t in the text table and v in the work table
--   fed_byte .. i b s t v     the byte b at the place i: `?` is a gap, a letter is given to the sheet, any other byte is refused
--   fed .. i bs s t v         the bytes bs from the place i on, up to the first that is refused
--   Left K E                  what a whole trace answers, the counts or a refusal, and what it leaves in the two tables
--   left_as r t v             it answers r, and leaves t in the text table and v in the work table
--   unless_refused o t v go   go of what o holds; a refusal leaves the tables t and v as they were
--   rewritten .. m k bs t v   what the trace bs comes to on a sheet of its own with the automaton m and windows of k letters
--
-- What the sheet does with a letter or a gap is sheetlaw's.
use Rattle.std.specs.Prelude.{ℕ, ◌+◌, cond, List, [], ◌∷◌, length, Some, None, Ok, Err, Option, Result, ◌==◌}
use Rattle.faults.specs.declared.Fault.{Fault}
use Rattle.faults.specs.Causes.{no_letter}
use Rattle.models.specs.Alphabet.{Alphabet}
use Rattle.models.specs.Automaton.{Model}
use Rattle.sheetlaw.specs.Step.{Contents, opening, close, needs, answers, leaves, writes, cleared, pauses, leaves_gap}
use Rattle.sheetlaw.specs.NextRow.{row_of}
use Rattle.sheetlaw.specs.declared.Counts.{Counts}
use Rattle.stations.specs.Stations.{bind}
use Rattle.texts.specs.Texts.{reading}

pub record Fed (K : Type 0) : Type 0 where
  pub answer : Result (Unit {0}) Fault
  pub sheet : Contents K
  pub table : List K
  pub work : List ℕ

abbrev pub fed_as : {K : Type 0} → Result (Unit {0}) Fault → Contents K → List K → List ℕ → Fed K
fed_as r s t v = record { answer = r; sheet = s; table = t; work = v }

-- whether a letter was refused, whatever it answered
abbrev pub refusal : {T : Type 0} → Result T Fault → Result (Unit {0}) Fault
refusal (Ok a) = Ok tt
refusal (Err f) = Err f

abbrev pub fed_gap : {K : Type 0} → Contents K → List K → List ℕ → Fed K
fed_gap s t v = fed_as (pauses s) (leaves_gap s) t v

-- what is taken stands, and the work goes on; a refusal ends it
abbrev pub go_on : {K : Type 0} → Result (Unit {0}) Fault → Contents K → List K → List ℕ → (Contents K → List K → List ℕ → Fed K) → Fed K
go_on (Ok a) s t v go = go s t v
go_on (Err f) s t v go = fed_as (Err f) s t v

module _ {K : Type 0} (A : Alphabet K) (parsed : ℕ → Option ℕ) (m : Model K) (k : ℕ) where
  unfoldable pub fed_letter : ℕ → Option K → Contents K → List K → List ℕ → Fed K
  fed_letter i (Some x) s t v =
      fed_as (refusal (answers m k (row_of A m) (length v) (length t) s x)) (leaves m k (row_of A m) (length v) (length t) s x)
      (writes m k (row_of A m) (length v) s x t) (cleared (needs m) v)
  fed_letter i None s t v = fed_as (Err (no_letter i)) s t v

  abbrev pub fed_byte : ℕ → ℕ → Contents K → List K → List ℕ → Fed K
  fed_byte i b s t v = cond (b == 63) (fed_gap s t v) (fed_letter i (reading A parsed b) s t v)

  unfoldable pub fed : ℕ → List ℕ → Contents K → List K → List ℕ → Fed K
  fed i [] s t v = fed_as (Ok tt) s t v
  fed i (b ∷ bs) s t v =
      let f = fed_byte i b s t v in go_on f.answer f.sheet f.table f.work (fed (i + 1) bs)

pub record Left (K E : Type 0) : Type 0 where
  pub answer : Result Counts E
  pub table : List K
  pub work : List ℕ

abbrev pub left_as : {K E : Type 0} → Result Counts E → List K → List ℕ → Left K E
left_as r t v = record { answer = r; table = t; work = v }

abbrev pub unless_refused : {X K E : Type 0} → Result X E → List K → List ℕ → (X → Left K E) → Left K E
unless_refused (Ok x) t v go = go x
unless_refused (Err e) t v go = left_as (Err e) t v

-- the sheet is closed, unless a byte was refused
abbrev pub closed : {K : Type 0} → Fed K → Left K Fault
closed f = left_as (bind f.answer (λ _. Ok (close f.sheet))) f.table f.work

unfoldable pub rewritten : {K : Type 0} → Alphabet K → (ℕ → Option ℕ) → Model K → ℕ → List ℕ → List K → List ℕ → Left K Fault
rewritten A parsed m k bs t v = unless_refused (opening m k) t v (λ s. closed (fed A parsed m k 0 bs s t v))
