-- A trace followed on a sheet of its own. Assumes nothing.
--
--   event reads b             what the byte b of a trace is: `?` a gap, else the letter that it reads as, if there is one
--   events reads bs           the letters and gaps of the trace bs
--   call m k row s t e work   the letter or gap e on a sheet that holds s, with what it answers and leaves
--   Steps K                   a trace that is followed: every call, and what it is followed on and with
--   permitted m k reads bs    whether a sheet is opened and the trace bs has only letters and gaps; else why not
--   admitted .. line rest     the same, and that only remarks follow: all that can refuse a file from its window length on
--   calls_of A t w m k es     the calls of the letters and gaps es on a sheet with the automaton m and windows of k letters, the
--                             latest first; the text table first holds t, and the work table w
--   followed A t w m k n es   these calls and what they leave, for a trace of n letters and gaps
--   steps A t w m k reads bs  the same of the trace bs, where it is permitted
--   Law A s                   the law of a sheet, of all the calls of s
use Rattle.std.specs.Prelude.{ℕ, ◌+◌, cond, List, [], length, Some, None, Ok, Err, Option, Result, ◌==◌}
use Rattle.faults.specs.declared.Fault.{Fault}
use Rattle.models.specs.Alphabet.{Alphabet}
use Rattle.models.specs.Automaton.{Model}
use Rattle.sheetlaw.specs.Calls.{Turn, letter, gap}
use Rattle.sheetlaw.specs.Step.{Contents, opening, needs, answers, cleared, pauses}
use Rattle.sheetlaw.specs.Runs.{after, turns}
use Rattle.sheetlaw.specs.Law.{Followed}
use Rattle.sheetlaw.specs.NextRow.{row_of}
use Rattle.sheetlaw.specs.declared.Event.{Event}
use Rattle.sheetlaw.specs.declared.Event.TheVariants.{Letter, Gap}
use Rattle.drives.specs.Traces.{brought, left_over}
use Rattle.stations.specs.Stations.{Item, bind, ended}
use Rattle.listings.specs.Listings.{and_then}
use Rattle.files.specs.Refusals.{at_line}
use Rattle.files.specs.declared.refusals.Refusal.{Refusal}
use Rattle.texts.specs.Texts.{stray, spelled, unless_stray}

abbrev pub letter_event : {K : Type 0} → Option K → Option (Event K)
letter_event (Some x) = Some (Letter x)
letter_event None = None

abbrev pub event : {K : Type 0} → (ℕ → Option K) → ℕ → Option (Event K)
event reads b = cond (b == 63) (Some Gap) (letter_event (reads b))

abbrev pub events : {K : Type 0} → (ℕ → Option K) → List ℕ → List (Event K)
events reads bs = spelled (event reads) bs

abbrev pub call : {K : Type 0} → Model K → ℕ → (List K → List K → Option (List K)) → Contents K → List K → Event K → List ℕ → Turn K
call m k row s t (Letter x) work = letter x work (answers m k row (length work) (length t) s x) (cleared (needs m) work)
call m k row s t Gap work = gap (pauses s)

pub record Steps (K : Type 0) : Type 0 where
  pub model : Model K
  pub window : ℕ
  -- the letters and gaps of the trace
  pub size : ℕ
  -- what the text table held before the first call
  pub first : List K
  -- the calls, the latest first
  pub calls : List (Turn K)
  -- what the sheet, the text table and the work table hold after them
  pub sheet : Contents K
  pub table : List K
  pub work : List ℕ

abbrev pub permitted : {K : Type 0} → Model K → ℕ → (ℕ → Option K) → List ℕ → Result (Unit {0}) Fault
permitted m k reads bs = bind (opening m k) (λ _. unless_stray (stray (event reads) bs) tt)

-- whether a call answers, or why it refuses, whatever it answers
abbrev pub verdict : {T E : Type 0} → Result T E → Result (Unit {0}) E
verdict (Ok x) = Ok tt
verdict (Err e) = Err e

-- the trace is on this line, and then comes the rest
abbrev pub admitted : {K : Type 0} → Model K → ℕ → (ℕ → Option K) → List ℕ → (line : ℕ) (rest : List Item) → Result (Unit {0}) Refusal
admitted m k reads bs line rest = and_then (at_line (permitted m k reads bs) line) (λ _. ended (line + 1) rest)

module _ {K : Type 0} (A : Alphabet K) (t : List K) (w : List ℕ) (m : Model K) (k : ℕ) where
  abbrev pub calls_of : List (Event K) → List (Turn K)
  calls_of es = turns m k (row_of A m) t [] (brought (needs m) w es)

  abbrev pub followed : ℕ → List (Event K) → Steps K
  followed n es = record {
    model = m;
    window = k;
    size = n;
    first = t;
    calls = calls_of es;
    sheet = (after m k (row_of A m) t (calls_of es)).0;
    table = (after m k (row_of A m) t (calls_of es)).1;
    work = left_over (needs m) w es;
  }

  abbrev pub steps : (ℕ → Option K) → List ℕ → Result (Steps K) Fault
  steps reads bs = bind (permitted m k reads bs) (λ _. Ok (followed (length bs) (events reads bs)))

abbrev pub Law : {K : Type 0} → Alphabet K → Steps K → Type 0
Law A s = Followed s.model A.number s.window (row_of A s.model) s.first s.calls s.sheet s.table
