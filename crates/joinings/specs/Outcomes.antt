-- What the join program finds in a file, and all that it prints. Assumes nothing.
--
--   Room           how many letters the tables of a kind hold: the contexts' letters, and the text
--   room d         the room of the code's two tables
--   Tables         how long the lent tables are: the list's records and words, the work table, and the room of each kind
--   SameDesk a b   the desk b lends the same slices as the desk a, as long as they were, whatever they hold
--   SameDesks a b  the same of the desks of all kinds
--   reported r     what the code's report on a file of one kind says
--   outcome t bs   the answer for the file bs on the tables t, or the first refusal in file order
--   printed r      what is printed of an outcome: the answer, or the refusal line
use Rattle.std.specs.Prelude.{◌≡◌, ℕ, cond, List, length, Ok, Err, Option, Result, nat_lt}
use Rattle.models.specs.Alphabet.{Alphabet}
use Rattle.letters.specs.Two.{two_alphabet, two_printed, two_parsed}
use Rattle.letters.specs.Trends.{trend_alphabet, trend_printed, trend_parsed}
use Rattle.letters.specs.Seepages.{seepage_alphabet, seepage_printed, seepage_parsed}
use Rattle.files.specs.Lines.{items}
use Rattle.files.specs.Refusals.{refusal_line}
use Rattle.files.specs.declared.refusals.Refusal.{Refusal}
use Rattle.texts.specs.Texts.{reading}
use Rattle.stations.specs.Stations.{Item, early, headed}
use Rattle.stations.specs.declared.Kind.{Kind}
use Rattle.stations.specs.declared.Kind.TheVariants.{Two, Trend, Seepage}
use Rattle.listings.specs.Listings.{and_then}
use Rattle.listings.specs.Bodies.{body}
use Rattle.joinings.specs.Findings.{settled}
use Rattle.joinings.specs.Reports.{Answer, answer_of, answered, shown}
use Rattle.joinings.specs.declared.outcome.Desk.{Desk}
use Rattle.joinings.specs.declared.outcome.Desks.{Desks}
use Rattle.joinings.specs.declared.report.Report.{Report}

pub record Room : Type 0 where
  pub letters : ℕ
  pub text : ℕ

abbrev pub room : {K : Type 0} → Desk K → Room
room d = record { letters = length d.letters.now; text = length d.text.now }

abbrev pub SameDesk : {K : Type 0} → Desk K → Desk K → Type 0
SameDesk a b =
    (b.letters.ghost_name ≡ a.letters.ghost_name)
    × (b.text.ghost_name ≡ a.text.ghost_name)
    × (length b.letters.now ≡ length a.letters.now)
    × (length b.text.now ≡ length a.text.now)

abbrev pub SameDesks : Desks → Desks → Type 0
SameDesks a b = SameDesk a.two b.two × SameDesk a.trend b.trend × SameDesk a.seepage b.seepage

pub record Tables : Type 0 where
  pub records : ℕ
  pub words : ℕ
  pub two : Room
  pub trend : Room
  pub seepage : Room
  pub work : ℕ

abbrev pub reported : {K : Type 0} → Alphabet K → (ℕ → ℕ) → Result (Report K) Refusal → Result Answer Refusal
reported A printed (Ok r) = Ok (answered A printed r)
reported A printed (Err e) = Err e

-- a file of the kind k from the line after its kind line on
abbrev pub joined_body : {K : Type 0} → Kind → Alphabet K → (ℕ → ℕ) → (ℕ → Option ℕ) → ℕ → ℕ → Room → ℕ → ℕ → List Item → Result Answer Refusal
joined_body k A printed parsed n w d words l xs =
    body A (reading A parsed) (settled A (reading A parsed) d.letters d.text words) (answer_of k A printed) n w l xs

abbrev pub body_of : Tables → Kind → ℕ → List Item → Result Answer Refusal
body_of t Two l xs = joined_body Two two_alphabet two_printed two_parsed t.records t.words t.two t.work l xs
body_of t Trend l xs = joined_body Trend trend_alphabet trend_printed trend_parsed t.records t.words t.trend t.work l xs
body_of t Seepage l xs = joined_body Seepage seepage_alphabet seepage_printed seepage_parsed t.records t.words t.seepage t.work l xs

abbrev pub outcome : Tables → List ℕ → Result Answer Refusal
outcome t bs = cond (nat_lt 60000 (length bs)) (Err early) (and_then (headed 1 (items bs)) (λ h. body_of t h.0 h.1.0 h.1.1))

abbrev pub printed : Result Answer Refusal → List ℕ
printed (Ok a) = shown a
printed (Err e) = refusal_line e
