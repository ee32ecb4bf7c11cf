-- The worked examples: joins, checks, sheets and whole files, computed from the definitions that the contracts cite.
-- Assumes nothing.
--
--   Shown            what an example comes to: a text as bytes, and numbers
--   joined_text K ps u v room   the join of u and v under the patterns ps with a text table of `room` letters: the string, then
--                    its length, overlap and filled letters
--   checked_text K ps t         the place at which t is stopped, if it is
--   rewritten K k ps t table    the trace t given to a sheet with windows of k letters and that text table: the text, then the five
--                    counts; or the
--                    first refusal
--   printed_file f              all that is printed of the station file f when it is rewritten, with the program's tables for
--                    the list, a text table of 16 letters and a work table of 64 words
--   examples         each example beside what it must come to
use Rattle.std.specs.Prelude.{◌≡◌, ℕ, ◌*◌, List, [], ◌∷◌, map, take, replicate, Some, None, Ok, Err, codes, Option, Result}
use Prim.Native.String.{String}
use Rattle.models.specs.Alphabet.{Alphabet}
use Rattle.models.specs.Automaton.{Model, stopped}
use Rattle.faults.specs.declared.Fault.{Fault}
use Rattle.faults.specs.Causes.{no_string, short_text, stopped_context}
use Rattle.letters.specs.Two.{two_alphabet, two_parsed, two_printed}
use Rattle.letters.specs.Trends.{trend_alphabet, trend_parsed, trend_printed}
use Rattle.letters.specs.declared.two.Two.{Two}
use Rattle.letters.specs.declared.trend.Trend.{Trend}
use Rattle.texts.specs.Texts.{reading, spelled}
use Rattle.listings.specs.Listings.{list_model}
use Rattle.joins.specs.Answers.{answer, text_after}
use Rattle.joins.specs.declared.answers.Joined.{Joined}
use Rattle.sheetlaw.specs.Calls.{Turn, letter, gap}
use Rattle.sheetlaw.specs.Step.{close}
use Rattle.sheetlaw.specs.Runs.{after, turns}
use Rattle.sheetlaw.specs.Law.{text}
use Rattle.sheetlaw.specs.NextRow.{row_of}
use Rattle.sheetlaw.specs.declared.Event.{Event}
use Rattle.sheetlaw.specs.declared.Event.TheVariants.{Letter, Gap}
use Rattle.sheetlaw.specs.declared.Answer.{Answer}
use Rattle.sheetlaw.specs.declared.Counts.{Counts}
use Rattle.rewritelaw.specs.Outcomes.{outcome, printed}

pub record Shown : Type 0 where
  pub written : List ℕ
  pub numbers : List ℕ

-- a printable kind
pub record Printed (K : Type 0) : Type 0 where
  pub alphabet : Alphabet K
  pub parsed : ℕ → Option ℕ
  pub printed : ℕ → ℕ

abbrev pub two : Printed Two
two = record { alphabet = two_alphabet; parsed = two_parsed; printed = two_printed }

abbrev pub trend : Printed Trend
trend = record { alphabet = trend_alphabet; parsed = trend_parsed; printed = trend_printed }

module _ {K : Type 0} (P : Printed K) where
  abbrev pub spelt : String → List K
  spelt s = spelled (reading P.alphabet P.parsed) (codes s)

  abbrev pub bytes : List K → List ℕ
  bytes xs = map (λ x. P.printed (P.alphabet.number x)) xs

  abbrev pub listed : List String → Model K
  listed ps = list_model P.alphabet (map spelt ps)

  abbrev pub join_shown : Model K → List K → List K → Result Joined Fault → Result Shown Fault
  join_shown m u v (Ok j) = Ok (record { written = bytes (take j.length (text_after (Ok j) P.alphabet m u v [])); numbers = j.length ∷ j.overlap ∷ j.filled ∷ [] })
  join_shown m u v (Err f) = Err f

  abbrev pub joined_text : List String → String → String → ℕ → Result Shown Fault
  joined_text ps u v room =
      join_shown (listed ps) (spelt u) (spelt v) (answer P.alphabet (listed ps) (spelt u) (spelt v) room (4 * (listed ps).count))

  abbrev pub place_shown : Option ℕ → Result Shown Fault
  place_shown (Some i) = Ok (record { written = []; numbers = i ∷ [] })
  place_shown None = Ok (record { written = []; numbers = [] })

  abbrev pub checked_text : List String → String → Result Shown Fault
  checked_text ps t = place_shown (stopped (listed ps) (spelt t))

  -- a letter of the trace, or a gap
  abbrev pub event_of : Option K → Event K
  event_of (Some x) = Letter x
  event_of None = Gap

  abbrev pub events : List ℕ → ℕ → List (Event K × List ℕ)
  events bs n = map (λ b. (event_of (reading P.alphabet P.parsed b), replicate n 0)) bs

  -- the answer that refused first, or else what was rewritten; the latest call is first in the list
  abbrev pub or_refused : Result Answer Fault → Result Shown Fault → Result Shown Fault
  or_refused (Ok a) r = r
  or_refused (Err f) r = Err f

  abbrev pub first_refused : List (Turn K) → Result Shown Fault → Result Shown Fault
  first_refused [] r = r
  first_refused (letter x work a left ∷ h) r = first_refused h (or_refused a r)
  first_refused (gap a ∷ h) r = first_refused h r

  abbrev pub counted : Counts → List ℕ
  counted c = c.letters ∷ c.kept ∷ c.skipped ∷ c.text ∷ c.filled ∷ []

  abbrev pub sheet_shown : Model K → ℕ → List K → List (Turn K) → Result Shown Fault
  sheet_shown m k t h =
      let u = after m k (row_of P.alphabet m) t h in
      first_refused h (Ok (record { written = bytes (text h u.1); numbers = counted (close u.0) }))

  abbrev pub rewritten : ℕ → List String → String → String → Result Shown Fault
  rewritten k ps t table =
      let m = listed ps in
      sheet_shown m k (spelt table) (turns m k (row_of P.alphabet m) (spelt table) [] (events (codes t) (4 * m.count)))

abbrev pub printed_file : String → Result Shown Fault
printed_file f = Ok (record { written = printed (outcome 512 4096 (spelt two "aaaaaaaaaaaaaaaa") [] [] (replicate 64 0) (codes f)).answer; numbers = [] })

abbrev pub gives : String → List ℕ → Result Shown Fault
gives s ns = Ok (record { written = codes s; numbers = ns })

abbrev pub Holds : Result Shown Fault × Result Shown Fault → Type 0
Holds e = e.0 ≡ e.1

abbrev pub examples : List (Result Shown Fault × Result Shown Fault)
examples =
    (joined_text two [] "ab" "ba" 8, gives "aba" (3 ∷ 1 ∷ 0 ∷ []))
    ∷ (joined_text two [] "ab" "ba" 2, Err (short_text 3))
    ∷ (joined_text two ("baab" ∷ []) "baa" "aab" 8, gives "baaab" (5 ∷ 1 ∷ 0 ∷ []))
    ∷ (joined_text two ("bbbb" ∷ "aaba" ∷ "abba" ∷ []) "aab" "aba" 8, gives "aabbbaba" (8 ∷ 0 ∷ 2 ∷ []))
    ∷ (joined_text two ("ab" ∷ []) "a" "b" 8, Err (no_string 0))
    ∷ (joined_text two ("ab" ∷ []) "ab" "b" 8, Err (stopped_context 1))
    ∷ (joined_text two [] "" "" 8, gives "" (0 ∷ 0 ∷ 0 ∷ []))
    ∷ (checked_text two ("abab" ∷ "ba" ∷ []) "aba", gives "" (2 ∷ []))
    ∷ (joined_text trend ("+-" ∷ []) "+" "-" 8, gives "+=-" (3 ∷ 0 ∷ 1 ∷ []))
    ∷ (rewritten two 3 ("aaa" ∷ []) "baaaaab" "aaaaaaaa", gives "baab" (7 ∷ 2 ∷ 3 ∷ 4 ∷ 0 ∷ []))
    ∷ (rewritten two 4 ("bbbb" ∷ "aaba" ∷ "abba" ∷ []) "abbbbaaabaa" "aaaaaaaaaaaaaaaa", gives "abbbaaabbbabaa" (11 ∷ 6 ∷ 2 ∷ 14 ∷ 2 ∷ []))
    ∷ (rewritten two 2 [] "aaaa" "bbbbbbbb", gives "aaaa" (4 ∷ 3 ∷ 0 ∷ 4 ∷ 0 ∷ []))
    ∷ (rewritten two 2 ("ab" ∷ []) "aa?bb" "aaaaaaaa", Err (no_string 4))
    ∷ (printed_file "LA\nk   4\n!bbbb\n!aaba\n!abba\n>abbbbaaabaa\n", gives "abbbaaabbbabaa\n    11     6     2    14     2\n" [])
    ∷ (printed_file "LA\nk   2\n!ab\n>aa?bb\n", gives "R   8J     4     4\n" [])
    ∷ []
