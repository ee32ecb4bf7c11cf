-- What a station file comes to when it is rewritten, and all that is printed of it. Assumes nothing.
--
--   window_of f      the window length that the settings f say
--   body .. l xs     what the lines xs come to, from the line l after the kind line on: the counts or the first refusal in
--                    file order, and what the two tables hold then
--   Sheeted          what is printed of a rewritten trace: the text as bytes, and the counts
--   Outcome          what a file comes to: what is printed of its trace, or the first refusal in file order; and what the text
--                    table of each kind and the work table hold then
--   outcome .. bs    the outcome of the file bs. The list's tables have n records and w words; a is the text table for two
--                    letters, p that for trends, q that for seepage, and v the work table
--   shown s          the text's line and the line of the five counts
--   printed r        what is printed: the text and the counts, or the refusal line
--   written r        whether it is a text
use Rattle.std.specs.Prelude.{ℕ, ◌+◌, Bool, true, false, cond, List, [], ◌∷◌, ◌++◌, map, length, take, Ok, Err, Option, Result, nat_lt}
use Rattle.std.specs.Option.{unwrap_or}
use Rattle.models.specs.Alphabet.{Alphabet}
use Rattle.letters.specs.Two.{two_alphabet, two_parsed, two_printed}
use Rattle.letters.specs.Trends.{trend_alphabet, trend_parsed, trend_printed}
use Rattle.letters.specs.Seepages.{seepage_alphabet, seepage_parsed, seepage_printed}
use Rattle.letters.specs.declared.two.Two.{Two as TwoLetter}
use Rattle.letters.specs.declared.trend.Trend.{Trend as TrendLetter}
use Rattle.letters.specs.declared.seepage.Seepage.{Seepage as SeepageLetter}
use Rattle.faults.specs.declared.Fault.{Fault}
use Rattle.files.specs.Lines.{items}
use Rattle.files.specs.Refusals.{at_line, refusal_line}
use Rattle.files.specs.declared.refusals.Refusal.{Refusal}
use Rattle.pages.specs.Pages.{columns}
use Rattle.texts.specs.Texts.{reading}
use Rattle.stations.specs.Stations.{Item, early, headed, ended}
use Rattle.stations.specs.declared.Form.{Form}
use Rattle.stations.specs.declared.Kind.{Kind}
use Rattle.stations.specs.declared.Kind.TheVariants.{Two, Trend, Seepage}
use Rattle.listings.specs.Listings.{Listing, list_model, limited, listed, fresh, and_then}
use Rattle.sheetlaw.specs.declared.Counts.{Counts}
use Rattle.rewritelaw.specs.Traces.{Left, left_as, unless_refused, rewritten}

-- 4 where the file has no `k` line
abbrev pub window_of : Form → ℕ
window_of f = unwrap_or f.window 4

module _ {K : Type 0} (A : Alphabet K) (parsed : ℕ → Option ℕ) (n w : ℕ) (t : List K) (v : List ℕ) where
  -- the trace line is judged: the run limit, the pair, the window length, the memory, and then its trace
  abbrev pub judged : Listing K → Left K Fault
  judged l =
      unless_refused (limited (list_model A l.patterns) A l.form.limit Ok) t v (λ m. rewritten A parsed m (window_of l.form) l.trace t v)

  -- what the trace line came to is refused at its line, and then only remarks may follow
  abbrev pub ends : Listing K → Left K Fault → Left K Refusal
  ends l f = left_as (and_then (at_line f.answer l.line) (λ c. and_then (ended (l.line + 1) l.rest) (λ _. Ok c))) f.table f.work

  abbrev pub body : ℕ → List Item → Left K Refusal
  body l xs = unless_refused (listed A (reading A parsed) n w l fresh [] xs) t v (λ d. ends d (judged d))

pub record Sheeted : Type 0 where
  pub text : List ℕ
  pub counts : Counts

-- the text is the front of the table
abbrev pub sheeted : {K : Type 0} → Alphabet K → (ℕ → ℕ) → Counts → List K → Sheeted
sheeted A printed c t = record { text = map (λ x. printed (A.number x)) (take c.text t); counts = c }

abbrev pub told : {K : Type 0} → Alphabet K → (ℕ → ℕ) → Result Counts Refusal → List K → Result Sheeted Refusal
told A printed (Ok c) t = Ok (sheeted A printed c t)
told A printed (Err e) t = Err e

pub record Outcome : Type 0 where
  pub answer : Result Sheeted Refusal
  pub two : List TwoLetter
  pub trend : List TrendLetter
  pub seepage : List SeepageLetter
  pub work : List ℕ

module _ (n w : ℕ) (a : List TwoLetter) (p : List TrendLetter) (q : List SeepageLetter) (v : List ℕ) where
  -- a file that is refused before its kind is known leaves every table as it was
  abbrev pub unknown : Refusal → Outcome
  unknown e = record { answer = Err e; two = a; trend = p; seepage = q; work = v }

  -- only the text table of the file's kind is written
  abbrev pub body_of : Kind → ℕ → List Item → Outcome
  body_of Two l xs =
      let r = body two_alphabet two_parsed n w a v l xs in
      record { answer = told two_alphabet two_printed r.answer r.table; two = r.table; trend = p; seepage = q; work = r.work }
  body_of Trend l xs =
      let r = body trend_alphabet trend_parsed n w p v l xs in
      record { answer = told trend_alphabet trend_printed r.answer r.table; two = a; trend = r.table; seepage = q; work = r.work }
  body_of Seepage l xs =
      let r = body seepage_alphabet seepage_parsed n w q v l xs in
      record { answer = told seepage_alphabet seepage_printed r.answer r.table; two = a; trend = p; seepage = r.table; work = r.work }

  abbrev pub after_head : Result (Kind × (ℕ × List Item)) Refusal → Outcome
  after_head (Ok h) = body_of h.0 h.1.0 h.1.1
  after_head (Err e) = unknown e

  abbrev pub outcome : List ℕ → Outcome
  outcome bs = cond (nat_lt 60000 (length bs)) (unknown early) (after_head (headed 1 (items bs)))

-- each right-justified in 6 columns
abbrev pub counts_line : Counts → List ℕ
counts_line c = columns 6 c.letters ++ (columns 6 c.kept ++ (columns 6 c.skipped ++ (columns 6 c.text ++ (columns 6 c.filled ++ (10 ∷ [])))))

abbrev pub shown : Sheeted → List ℕ
shown s = s.text ++ (10 ∷ counts_line s.counts)

abbrev pub printed : Result Sheeted Refusal → List ℕ
printed (Ok s) = shown s
printed (Err e) = refusal_line e

abbrev pub written : Result Sheeted Refusal → Bool
written (Ok s) = true
written (Err e) = false
