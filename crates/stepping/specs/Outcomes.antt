-- What a station file comes to when its trace is followed, and all that is printed of it. Assumes nothing.
--
--   Report K                  a file whose trace is followed
--   sheet_lines               the lines of the sheet, before the calls
--   end_lines A printed s     the text and the five counts of the calls
--   shown A printed r         all that is printed of a report
--   reported A printed o      what is printed of an outcome: a report, or the refusal line
--   complete o                whether it is a report and none of its calls is refused
--   table_left t o            the text table afterwards, which first held t; a refused file leaves it
--   work_left w o             the work table afterwards
--   UnderLaw A o             the law of a sheet holds of all the calls of a report
--   Told ..                   the page, the answer and the tables are those of the outcome o, and its calls obey the law
--   concluded ..              the outcome of a trace line: what its trace comes to, and then the lines after it
--   body .. l xs              the outcome of a file from the line l after its kind line on. The list's tables have n records
--                             and w words; the text table first holds t, the work table first holds work
--   Stepped                   a report on a file of one of the three kinds
--   outcome .. bs             the outcome of the file bs: a report, or the first refusal in file order. a is the text table for
--                             two letters, p that for trends and q that for seepage
--   file_printed, file_complete, two_left, trend_left, seepage_left, file_work, FileLaw
--                             what is printed of the outcome of a file, whether all its calls are taken, what the four tables
--                             hold afterwards, and that the law of a sheet holds of all its calls
use Rattle.std.specs.Prelude.{◌≡◌, ℕ, ◌+◌, Bool, false, cond, List, [], ◌∷◌, ◌++◌, map, length, Ok, Err, codes, Option, Result, nat_lt}
use Rattle.faults.specs.declared.Fault.{Fault}
use Rattle.models.specs.Alphabet.{Alphabet}
use Rattle.letters.specs.Two.{two_alphabet, two_parsed, two_printed}
use Rattle.letters.specs.Trends.{trend_alphabet, trend_parsed, trend_printed}
use Rattle.letters.specs.Seepages.{seepage_alphabet, seepage_parsed, seepage_printed}
use Rattle.letters.specs.declared.two.Two.{Two as TwoLetter}
use Rattle.letters.specs.declared.trend.Trend.{Trend as TrendLetter}
use Rattle.letters.specs.declared.seepage.Seepage.{Seepage as SeepageLetter}
use Rattle.files.specs.Lines.{items}
use Rattle.files.specs.Refusals.{at_line, refusal_line}
use Rattle.files.specs.declared.refusals.Refusal.{Refusal}
use Rattle.pages.specs.Pages.{Wrote, labelled}
use Rattle.pages.specs.declared.Page.{Page}
use Rattle.texts.specs.Texts.{reading}
use Rattle.stations.specs.Stations.{Item, early, headed, ended}
use Rattle.stations.specs.declared.Kind.{Kind}
use Rattle.stations.specs.declared.Kind.TheVariants.{Two, Trend, Seepage}
use Rattle.headings.specs.Headings.{heading_lines, automaton_line}
use Rattle.listings.specs.Listings.{list_model, limited, listed, fresh, and_then}
use Rattle.sheetlaw.specs.Calls.{tally}
use Rattle.sheetlaw.specs.Law.{text}
use Rattle.sheetlaw.specs.declared.Counts.{Counts}
use Rattle.rewritelaw.specs.Outcomes.{window_of}
use Rattle.stepping.specs.Replies.{step_lines, all_taken}
use Rattle.stepping.specs.Steps.{Steps, steps, Law}

pub record Report (K : Type 0) : Type 0 where
  pub kind : Kind
  pub patterns : ℕ
  pub limit : Option ℕ
  pub steps : Steps K

-- the automaton's count of states and its memory, the window length, and the letters and gaps of the trace
abbrev pub sheet_lines : ℕ → ℕ → ℕ → ℕ → List ℕ
sheet_lines states memory k n = automaton_line states memory ++ (labelled (codes "window: ") k (10 ∷ []) ++ labelled (codes "trace: ") n (codes " letters and gaps\n"))

abbrev pub count_lines : Counts → List ℕ
count_lines c =
    labelled (codes "letters taken: ") c.letters (10 ∷ []) ++ (labelled (codes "windows kept: ") c.kept (10 ∷ []) ++ (labelled (codes "windows skipped: ") c.skipped (10 ∷ [])
    ++ (labelled (codes "text letters: ") c.text (10 ∷ []) ++ labelled (codes "filled letters: ") c.filled (10 ∷ []))))

-- a text's line, and those of its counts
abbrev pub text_lines : {K : Type 0} → Alphabet K → (ℕ → ℕ) → List K → Counts → List ℕ
text_lines A printed xs c = codes "text: " ++ (map (λ x. printed (A.number x)) xs ++ (10 ∷ count_lines c))

abbrev pub end_lines : {K : Type 0} → Alphabet K → (ℕ → ℕ) → Steps K → List ℕ
end_lines A printed s = text_lines A printed (text s.calls s.table) (tally s.model s.window s.calls)

abbrev pub shown : {K : Type 0} → Alphabet K → (ℕ → ℕ) → Report K → List ℕ
shown A printed r =
    heading_lines r.kind r.patterns r.limit ++ (sheet_lines r.steps.model.count r.steps.model.memory r.steps.window r.steps.size
    ++ (step_lines A printed r.steps.calls ++ end_lines A printed r.steps))

module _ {K : Type 0} where
  abbrev pub reported : Alphabet K → (ℕ → ℕ) → Result (Report K) Refusal → List ℕ
  reported A printed (Ok r) = shown A printed r
  reported A printed (Err e) = refusal_line e

  abbrev pub complete : Result (Report K) Refusal → Bool
  complete (Ok r) = all_taken r.steps.calls
  complete (Err e) = false

  abbrev pub table_left : List K → Result (Report K) Refusal → List K
  table_left t (Ok r) = r.steps.table
  table_left t (Err e) = t

  abbrev pub work_left : List ℕ → Result (Report K) Refusal → List ℕ
  work_left w (Ok r) = r.steps.work
  work_left w (Err e) = w

  abbrev pub UnderLaw : Alphabet K → Result (Report K) Refusal → Type 0
  UnderLaw A (Ok r) = Law A r.steps
  UnderLaw A (Err e) = Unit {0}

-- before and after: the page, the text table and the work table
pub record Told {K : Type 0} (A : Alphabet K) (printed : ℕ → ℕ) (p p' : Page) (t t' : List K) (w w' : List ℕ) (answer : Bool) (o : Result (Report K) Refusal) : Type 0 where
  pub page : Wrote p p' (reported A printed o)
  pub completes : answer ≡ complete o
  pub table : t' ≡ table_left t o
  pub work : w' ≡ work_left w o
  pub law : UnderLaw A o

-- for a file of the kind k with n patterns and the run limit r, whose trace is on this line
abbrev pub concluded : {K : Type 0} → Kind → ℕ → Option ℕ → (line : ℕ) (rest : List Item) → Result (Steps K) Fault → Result (Report K) Refusal
concluded k n r line rest x =
    and_then (at_line x line) (λ s. and_then (ended (line + 1) rest) (λ _. Ok (record { kind = k; patterns = n; limit = r; steps = s })))

-- the trace line is judged: the run limit, the pair, the window length, the memory, and then the bytes of its trace
abbrev pub body : {K : Type 0} → Kind → Alphabet K → (ℕ → Option ℕ) → ℕ → ℕ → List K → List ℕ → ℕ → List Item → Result (Report K) Refusal
body k A parsed n w t work l xs =
    and_then (listed A (reading A parsed) n w l fresh [] xs)
    (λ d. concluded k (length d.patterns) d.form.limit d.line d.rest
    (limited (list_model A d.patterns) A d.form.limit (λ m. steps A t work m (window_of d.form) (reading A parsed) d.trace)))

pub data Stepped : Type 0 where
  of_two : Report TwoLetter → Stepped
  of_trend : Report TrendLetter → Stepped
  of_seepage : Report SeepageLetter → Stepped

-- an outcome, as one of its kind
abbrev pub as_kind : {K : Type 0} → (Report K → Stepped) → Result (Report K) Refusal → Result Stepped Refusal
as_kind f o = and_then o (λ r. Ok (f r))

module _ (n w : ℕ) (work : List ℕ) (a : List TwoLetter) (p : List TrendLetter) (q : List SeepageLetter) where
  abbrev pub body_of : Kind → ℕ → List Item → Result Stepped Refusal
  body_of Two l xs = as_kind of_two (body Two two_alphabet two_parsed n w a work l xs)
  body_of Trend l xs = as_kind of_trend (body Trend trend_alphabet trend_parsed n w p work l xs)
  body_of Seepage l xs = as_kind of_seepage (body Seepage seepage_alphabet seepage_parsed n w q work l xs)

  abbrev pub outcome : List ℕ → Result Stepped Refusal
  outcome bs = cond (nat_lt 60000 (length bs)) (Err early) (and_then (headed 1 (items bs)) (λ h. body_of h.0 h.1.0 h.1.1))

-- The same of a file of any kind

abbrev pub file_printed : Result Stepped Refusal → List ℕ
file_printed (Ok (of_two r)) = shown two_alphabet two_printed r
file_printed (Ok (of_trend r)) = shown trend_alphabet trend_printed r
file_printed (Ok (of_seepage r)) = shown seepage_alphabet seepage_printed r
file_printed (Err e) = refusal_line e

abbrev pub file_complete : Result Stepped Refusal → Bool
file_complete (Ok (of_two r)) = all_taken r.steps.calls
file_complete (Ok (of_trend r)) = all_taken r.steps.calls
file_complete (Ok (of_seepage r)) = all_taken r.steps.calls
file_complete (Err e) = false

-- only the text table of the file's kind is written
abbrev pub two_left : List TwoLetter → Result Stepped Refusal → List TwoLetter
two_left a (Ok (of_two r)) = r.steps.table
two_left a (Ok (of_trend r)) = a
two_left a (Ok (of_seepage r)) = a
two_left a (Err e) = a

abbrev pub trend_left : List TrendLetter → Result Stepped Refusal → List TrendLetter
trend_left p (Ok (of_two r)) = p
trend_left p (Ok (of_trend r)) = r.steps.table
trend_left p (Ok (of_seepage r)) = p
trend_left p (Err e) = p

abbrev pub seepage_left : List SeepageLetter → Result Stepped Refusal → List SeepageLetter
seepage_left q (Ok (of_two r)) = q
seepage_left q (Ok (of_trend r)) = q
seepage_left q (Ok (of_seepage r)) = r.steps.table
seepage_left q (Err e) = q

abbrev pub file_work : List ℕ → Result Stepped Refusal → List ℕ
file_work w (Ok (of_two r)) = r.steps.work
file_work w (Ok (of_trend r)) = r.steps.work
file_work w (Ok (of_seepage r)) = r.steps.work
file_work w (Err e) = w

abbrev pub FileLaw : Result Stepped Refusal → Type 0
FileLaw (Ok (of_two r)) = Law two_alphabet r.steps
FileLaw (Ok (of_trend r)) = Law trend_alphabet r.steps
FileLaw (Ok (of_seepage r)) = Law seepage_alphabet r.steps
FileLaw (Err e) = Unit {0}
