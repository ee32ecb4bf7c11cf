-- What the check program finds in a file, and all that it prints. Assumes nothing.
--
--   outcome n w bs   the report on the file bs, or the first refusal in file order; the list's tables have n records and w words
--   printed r        what is printed of an outcome: the report, or the refusal line
--   passed r         whether it is a report on a text that passes
use Rattle.std.specs.Prelude.{ℕ, ◌+◌, Bool, false, cond, not, List, [], length, is_some, Ok, Err, Option, Result, nat_lt}
use Rattle.models.specs.Alphabet.{Alphabet}
use Rattle.letters.specs.Two.{two_alphabet, two_parsed}
use Rattle.letters.specs.Trends.{trend_alphabet, trend_parsed}
use Rattle.letters.specs.Seepages.{seepage_alphabet, seepage_parsed}
use Rattle.files.specs.Lines.{items}
use Rattle.files.specs.Refusals.{at_line, refusal_line}
use Rattle.files.specs.declared.refusals.Refusal.{Refusal}
use Rattle.texts.specs.Texts.{reading}
use Rattle.stations.specs.Stations.{Item, early, headed, ended}
use Rattle.stations.specs.declared.Kind.{Kind}
use Rattle.stations.specs.declared.Kind.TheVariants.{Two, Trend, Seepage}
use Rattle.listings.specs.Listings.{Listing, list_model, limited, listed, fresh, and_then}
use Rattle.checks.specs.Reports.{finding, shown}
use Rattle.checks.specs.declared.report.Finding.{Finding}
use Rattle.checks.specs.declared.report.Report.{Report}

abbrev pub report_of : {K : Type 0} → Kind → Listing K → Finding → Report
report_of k l f = record { heading = record { kind = k; patterns = length l.patterns; limit = l.form.limit }; finding = f }

-- the trace line is judged: its run limit, the pair, and then its text
abbrev pub judged : {K : Type 0} → Alphabet K → (ℕ → Option ℕ) → Listing K → Result Finding Refusal
judged A parsed l = at_line (limited (list_model A l.patterns) A l.form.limit (λ m. finding m (reading A parsed) l.trace)) l.line

-- from the line after the kind line on
abbrev pub body : {K : Type 0} → Kind → Alphabet K → (ℕ → Option ℕ) → ℕ → ℕ → ℕ → List Item → Result Report Refusal
body k A parsed n w l xs =
    and_then (listed A (reading A parsed) n w l fresh [] xs) (λ d. and_then (judged A parsed d) (λ f. and_then (ended (d.line + 1) d.rest) (λ _. Ok (report_of k d f))))

abbrev pub body_of : ℕ → ℕ → Kind → ℕ → List Item → Result Report Refusal
body_of n w Two l xs = body Two two_alphabet two_parsed n w l xs
body_of n w Trend l xs = body Trend trend_alphabet trend_parsed n w l xs
body_of n w Seepage l xs = body Seepage seepage_alphabet seepage_parsed n w l xs

abbrev pub outcome : ℕ → ℕ → List ℕ → Result Report Refusal
outcome n w bs = cond (nat_lt 60000 (length bs)) (Err early) (and_then (headed 1 (items bs)) (λ h. body_of n w h.0 h.1.0 h.1.1))

abbrev pub printed : Result Report Refusal → List ℕ
printed (Ok r) = shown r
printed (Err e) = refusal_line e

abbrev pub passed : Result Report Refusal → Bool
passed (Ok r) = not (is_some r.finding.stopped)
passed (Err e) = false
