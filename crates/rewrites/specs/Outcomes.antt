-- What a station file comes to when it is rewritten, and all that is printed of it. Assumes nothing.
--
--   window_of f      the window length that the settings f say
--   outcome .. bs    the text and the counts of the file bs, or the first refusal in file order. The list's tables have n
--                    records and w words, the work table `work` words; a is the text table for two letters, p that for
--                    trends and q that for seepage
--   shown s          the text's line and the line of the five counts
--   printed r        what is printed of an outcome: the text and the counts, or the refusal line
--   written r        whether it is a text
use Rattle.std.specs.Prelude.{ℕ, ◌+◌, Bool, true, false, cond, List, [], ◌∷◌, ◌++◌, length, Ok, Err, Option, Result, nat_lt}
use Rattle.std.specs.Option.{unwrap_or}
use Rattle.models.specs.Alphabet.{Alphabet}
use Rattle.letters.specs.Two.{two_alphabet, two_parsed, two_printed}
use Rattle.letters.specs.Trends.{trend_alphabet, trend_parsed, trend_printed}
use Rattle.letters.specs.Seepages.{seepage_alphabet, seepage_parsed, seepage_printed}
use Rattle.letters.specs.declared.two.Two.{Two as TwoLetter}
use Rattle.letters.specs.declared.trend.Trend.{Trend as TrendLetter}
use Rattle.letters.specs.declared.seepage.Seepage.{Seepage as SeepageLetter}
use Rattle.files.specs.Lines.{items}
use Rattle.files.specs.Refusals.{at_line, refusal_line}
use Rattle.files.specs.declared.refusals.Refusal.{Refusal}
use Rattle.pages.specs.Pages.{columns}
use Rattle.texts.specs.Texts.{reading}
use Rattle.stations.specs.Stations.{Item, early, headed, ended}
use Rattle.stations.specs.declared.Form.{Form}
use Rattle.stations.specs.declared.Kind.{Kind}
use Rattle.stations.specs.declared.Kind.TheVariants.{Two, Trend, Seepage}
use Rattle.listings.specs.Listings.{Listing, list_model, limited, listed, fresh, and_then}
use Rattle.sheetlaw.specs.declared.Counts.{Counts}
use Rattle.rewrites.specs.Traces.{Sheeted, rewritten}

-- 4 where the file has no `k` line
abbrev pub window_of : Form → ℕ
window_of f = unwrap_or f.window 4

module _ {K : Type 0} (A : Alphabet K) (parsed : ℕ → Option ℕ) (printed : ℕ → ℕ) (n w work : ℕ) (t : List K) where
  -- the trace line is judged: the run limit, the pair, the window length, the memory, and then its trace
  abbrev pub judged : Listing K → Result Sheeted Refusal
  judged l = at_line (limited (list_model A l.patterns) A l.form.limit (λ m. rewritten A parsed printed work m (window_of l.form) l.trace t)) l.line

  -- from the line l after the kind line on
  abbrev pub body : ℕ → List Item → Result Sheeted Refusal
  body l xs =
      and_then (listed A (reading A parsed) n w l fresh [] xs) (λ d. and_then (judged d) (λ s. and_then (ended (d.line + 1) d.rest) (λ _. Ok s)))

module _ (n w work : ℕ) (a : List TwoLetter) (p : List TrendLetter) (q : List SeepageLetter) where
  abbrev pub body_of : Kind → ℕ → List Item → Result Sheeted Refusal
  body_of Two l xs = body two_alphabet two_parsed two_printed n w work a l xs
  body_of Trend l xs = body trend_alphabet trend_parsed trend_printed n w work p l xs
  body_of Seepage l xs = body seepage_alphabet seepage_parsed seepage_printed n w work q l xs

  abbrev pub outcome : List ℕ → Result Sheeted Refusal
  outcome bs = cond (nat_lt 60000 (length bs)) (Err early) (and_then (headed 1 (items bs)) (λ h. body_of h.0 h.1.0 h.1.1))

-- each right-justified in 6 columns
abbrev pub counts_line : Counts → List ℕ
counts_line c = columns 6 c.letters ++ (columns 6 c.kept ++ (columns 6 c.skipped ++ (columns 6 c.text ++ (columns 6 c.filled ++ (10 ∷ [])))))

abbrev pub shown : Sheeted → List ℕ
shown s = s.text ++ (10 ∷ counts_line s.counts)

abbrev pub printed : Result Sheeted Refusal → List ℕ
printed (Ok s) = shown s
printed (Err e) = refusal_line e

abbrev pub written : Result Sheeted Refusal → Bool
written (Ok s) = true
written (Err e) = false
