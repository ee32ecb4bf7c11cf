-- What is printed of a station file, in the subject's own words: for a good file the shortest text that keeps the windows
-- of its trace, and otherwise the first fault in file order.
--
--   Free ps xs             no pattern of ps occurs in xs
--   Allowed ps r xs        that, and no letter stands more than r times in a row, where there is a run limit r
--   event A parsed b       the letter or gap that a byte of a trace says, if it says one: `?` is a gap
--   events A parsed bs     the letters and gaps that the bytes of a trace say
--   KeptText .. s         s is the text and the counts of a sheet that was given the letters and gaps es and refused none,
--                          under patterns ps and a run limit r, with windows of k letters; among the strings that are
--                          allowed and have the kept windows in order, none is shorter than the text
--   Good .. bs s           the file bs names a kind, lists patterns and settings and has a trace, and s is their KeptText
--   Unfaulted r            no line is refused: the file is good, or it only ends too early
--   First .. bs e          the refusal e of the file bs is the first in file order: the lines before it have no fault, and
--                          whatever comes after it, it is refused so
use Rattle.std.specs.Prelude.{◌≡◌, ℕ, ◌-◌, ◌≤◌, cond, ◌↔◌, List, [], ◌∷◌, ◌++◌, map, length, take, Some, None, Ok, Err, Option, Result, ◌==◌}
use Rattle.std.specs.List.{ContainsAt as Listed}
use Rattle.models.specs.Alphabet.{Alphabet}
use Rattle.models.specs.Automaton.{Model, Lawful, Pass}
use Rattle.models.specs.Strings.{Occurs}
use Rattle.runlaw.specs.Runs.{Short}
use Rattle.letters.specs.Two.{two_alphabet, two_parsed, two_printed}
use Rattle.letters.specs.Trends.{trend_alphabet, trend_parsed, trend_printed}
use Rattle.letters.specs.Seepages.{seepage_alphabet, seepage_parsed, seepage_printed}
use Rattle.letters.specs.declared.two.Two.{Two as TwoLetter}
use Rattle.letters.specs.declared.trend.Trend.{Trend as TrendLetter}
use Rattle.letters.specs.declared.seepage.Seepage.{Seepage as SeepageLetter}
use Rattle.files.specs.Lines.{items}
use Rattle.files.specs.declared.refusals.Refusal.{Refusal}
use Rattle.texts.specs.Texts.{reading}
use Rattle.stations.specs.Stations.{Item, headed}
use Rattle.stations.specs.declared.Kind.{Kind}
use Rattle.stations.specs.declared.Kind.TheVariants.{Two, Trend, Seepage}
use Rattle.listings.specs.Listings.{Listing, listed, fresh}
use Rattle.sheetlaw.specs.Rivals.{Has}
use Rattle.sheetlaw.specs.Calls.{Turn, taken, kept, tally}
use Rattle.sheetlaw.specs.Step.{Contents}
use Rattle.sheetlaw.specs.Law.{text, Shortest, Followed}
use Rattle.sheetlaw.specs.NextRow.{row_of}
use Rattle.sheetlaw.specs.declared.Event.{Event}
use Rattle.sheetlaw.specs.declared.Event.TheVariants.{Letter, Gap}
use Rattle.rewritelaw.specs.Outcomes.{Sheeted, window_of, outcome}

abbrev pub Free : {K : Type 0} → List (List K) → List K → Type 0
Free {K} ps xs = (p : List K) → Listed ps p → Occurs p xs → ⊥

abbrev pub Allowed : {K : Type 0} → List (List K) → Option ℕ → List K → Type 0
Allowed ps None xs = Free ps xs
Allowed ps (Some r) xs = Free ps xs × Short r xs

-- the letter that a byte reads as
abbrev pub letter_event : {K : Type 0} → Option K → List (Event K)
letter_event (Some x) = Letter x ∷ []
letter_event None = []

abbrev pub event : {K : Type 0} → Alphabet K → (ℕ → Option ℕ) → ℕ → List (Event K)
event A parsed b = cond (b == 63) (Gap ∷ []) (letter_event (reading A parsed b))

abbrev pub events : {K : Type 0} → Alphabet K → (ℕ → Option ℕ) → List ℕ → List (Event K)
events A parsed [] = []
events A parsed (b ∷ bs) = event A parsed b ++ events A parsed bs

-- the text table first held t
pub record KeptText {K : Type 0} (A : Alphabet K) (printed : ℕ → ℕ) (ps : List (List K)) (r : Option ℕ) (k : ℕ) (es : List (Event K)) (t : List K) (s : Sheeted) : Type 0 where
  -- an automaton that lets pass exactly the strings that are allowed
  pub automaton : Model K
  pub lawful : Lawful automaton
  pub passes : (xs : List K) → Pass automaton xs ↔ Allowed ps r xs
  -- a sheet on it was given the letters and gaps es, each of which it took, and its law holds
  pub calls : List (Turn K)
  pub all : taken calls ≡ es
  pub each : length calls ≡ length es
  pub sheet : Contents K
  pub table : List K
  pub followed : Followed automaton A.number k (row_of A automaton) t calls sheet table
  -- what is printed is its text and its counts
  pub written : s.text ≡ map (λ x. printed (A.number x)) (text calls table)
  pub counts : s.counts ≡ tally automaton k calls
  -- the text is allowed and has the kept windows in order, and no string that is and has is shorter
  pub shortest : Shortest (λ o. Allowed ps r o × Has (kept automaton k es) o) (text calls table)

-- what the lines xs from the line l after the kind line on say, and what is printed of it
pub record GoodBody {K : Type 0} (A : Alphabet K) (parsed : ℕ → Option ℕ) (printed : ℕ → ℕ) (n w : ℕ) (t : List K) (l : ℕ) (xs : List Item) (s : Sheeted) : Type 0 where
  pub says : Listing K
  pub listing : listed A (reading A parsed) n w l fresh [] xs ≡ Ok says
  pub rewritten : KeptText A printed says.patterns says.form.limit (window_of says.form) (events A parsed says.trace) t s

abbrev pub Unfaulted : {T : Type 0} → Result T Refusal → Type 0
Unfaulted (Ok s) = Unit {0}
Unfaulted (Err e) = e.line ≡ 0

module _ (n w : ℕ) (a : List TwoLetter) (p : List TrendLetter) (q : List SeepageLetter) (v : List ℕ) where
  abbrev pub GoodOf : Kind → ℕ → List Item → Sheeted → Type 0
  GoodOf Two l xs s = GoodBody two_alphabet two_parsed two_printed n w a l xs s
  GoodOf Trend l xs s = GoodBody trend_alphabet trend_parsed trend_printed n w p l xs s
  GoodOf Seepage l xs s = GoodBody seepage_alphabet seepage_parsed seepage_printed n w q l xs s

  pub record Good (bs : List ℕ) (s : Sheeted) : Type 0 where
    pub kind : Kind
    pub line : ℕ
    pub rest : List Item
    pub head : headed 1 (items bs) ≡ Ok (kind, (line, rest))
    pub body : GoodOf kind line rest s

  pub record First (bs : List ℕ) (e : Refusal) : Type 0 where
    -- it is refused at one of its lines
    pub within : e.line ≤ length (items bs)
    -- a file of the lines before it has no fault
    pub before : (cs : List ℕ) → length cs ≤ 60000 → items cs ≡ take (e.line - 1) (items bs) → Unfaulted (outcome n w a p q v cs).answer
    -- and a file with the same lines up to it is refused as it is
    pub after : (cs : List ℕ) → length cs ≤ 60000 → take e.line (items cs) ≡ take e.line (items bs) → (outcome n w a p q v cs).answer ≡ Err e

  abbrev pub GoodLaw : List ℕ → Type 0
  GoodLaw bs = (s : Sheeted) → (outcome n w a p q v bs).answer ≡ Ok s → Good bs s

  abbrev pub FirstLaw : List ℕ → Type 0
  FirstLaw bs = (e : Refusal) → (outcome n w a p q v bs).answer ≡ Err e → 1 ≤ e.line → First bs e
