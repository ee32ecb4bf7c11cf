-- The law of a sheet, over every list of calls.
--
-- A sheet is opened on an automaton m, which it keeps, with windows of k letters. From then on it is given only letters and
-- gaps, in any order, each taken or refused. All its letters get one text table, which first held t0, of any length, and
-- which nothing else changes; the work table that each letter brings may be any. Of these calls, h is the list with their
-- answers, the latest first; s is what the sheet holds after them, and t what the text table holds.
--
--   text h t               the text: as much of the table's front as the kept answers appended together
--   Shortest P s           s is one of the strings with P, and none of them has fewer letters
--   Refused n r            the answer r is a refusal with the number n
--   EndsWindow k h x w     the next letter x ends the window w
--   Latest ws o            o is the last of the kept windows ws, or None where there is none
--   Refusals m ws w n r    r refuses a letter that ends the window w, after the kept windows ws, exactly as it must on a
--                          text table of n letters
--   Followed .. h s t      what holds after the calls h
--   SheetLaw ..            it holds after every list of calls
use Rattle.std.specs.Prelude.{◌≡◌, ℕ, ◌+◌, ◌-◌, ◌*◌, ◌<◌, ◌≤◌, ◌↔◌, List, [], ◌∷◌, ◌++◌, length, take, drop, Some, None, Ok, Err, Option, Result}
use Rattle.faults.specs.Causes.{number_of}
use Rattle.faults.specs.declared.Fault.{Fault}
use Rattle.models.specs.Automaton.{Model, Lawful, Pass, last}
use Rattle.models.specs.Strings.{Ends, Least}
use Rattle.sheetlaw.specs.Rivals.{Rival}
use Rattle.joinlaw.specs.Laws.{Continues}
use Rattle.sheetlaw.specs.Rows.{Rows}
use Rattle.sheetlaw.specs.Calls.{Turn, taken, appended, since, kept, tally}
use Rattle.sheetlaw.specs.Step.{Contents, opening, opened, answers, writes, close}
use Rattle.sheetlaw.specs.Runs.{after, Exact}
use Rattle.sheetlaw.specs.declared.Answer.{Answer}
use Rattle.sheetlaw.specs.declared.Answer.TheVariants.{Kept}

abbrev pub text : {K : Type 0} → List (Turn K) → List K → List K
text h t = take (appended h) t

abbrev pub Shortest : {K : Type 0} → (List K → Type 0) → List K → Type 0
Shortest {K} P s = P s × ((o : List K) → P o → length s ≤ length o)

abbrev pub Refused : {A : Type 0} → ℕ → Result A Fault → Type 0
Refused n (Ok a) = ⊥
Refused n (Err f) = number_of f ≡ n

-- with x, k letters would run since the opening or the last gap, and the window is these
abbrev pub EndsWindow : {K : Type 0} → ℕ → List (Turn K) → K → List K → Type 0
EndsWindow k h x w = (k ≤ length (since (taken h) ++ x ∷ [])) × (w ≡ last k (since (taken h) ++ x ∷ []))

abbrev pub Latest : {K : Type 0} → List (List K) → Option (List K) → Type 0
Latest ws None = ws ≡ []
Latest ws (Some w) = Ends (w ∷ []) ws

pub record Refusals {K : Type 0} (m : Model K) (ws : List (List K)) (w : List K) (n : ℕ) (r : Result Answer Fault) : Type 0 where
  -- with 8 exactly when no passing string has the kept windows and then this one in order
  pub unjoinable : Refused 8 r ↔ ((s : List K) → Rival m (ws ++ w ∷ []) s → ⊥)
  -- with 9 exactly when such strings exist and each is longer than the text table
  pub too_long : Refused 9 r ↔ (((s : List K) × Rival m (ws ++ w ∷ []) s) × ((s : List K) → Rival m (ws ++ w ∷ []) s → n < length s))

module _ {K : Type 0} (m : Model K) (number : K → ℕ) (k : ℕ) (row : List K → List K → Option (List K)) (t0 : List K) where
  pub record Followed (h : List (Turn K)) (s : Contents K) (t : List K) : Type 0 where
    -- the sheet was opened without refusal
    pub opens : opening m k ≡ Ok opened
    -- each call has answered, and left in its work table, the sheet and the text table, exactly what the definitions of a
    -- call give for the opening and the calls up to it
    pub exact : Exact m k row t0 h
    pub sheet : s ≡ (after m k row t0 h).0
    pub table : t ≡ (after m k row t0 h).1
    -- the sheet holds the last k letters taken since the opening or the last gap, or all if fewer; the last kept window;
    -- how many letters and gaps are taken
    pub running : s.running ≡ last k (since (taken h))
    pub latest : Latest (kept m k (taken h)) s.latest
    pub count : s.taken ≡ length (taken h)
    -- the text is within the table, which keeps its length and of which the rest is as it first was
    pub size : length t ≡ length t0
    pub within : appended h ≤ length t
    pub rest : drop (appended h) t ≡ drop (appended h) t0
    -- the text passes and has the kept windows in order, and no rival has fewer letters
    pub shortest : Shortest (Rival m (kept m k (taken h))) (text h t)
    -- the next letter, where it ends a window that passes alone and neither the work table nor the number of letters and
    -- gaps taken refuses it
    pub next : (x : K) (work : List ℕ) (w : List K) → EndsWindow k h x w → Pass m w → 4 * m.count ≤ length work → length (taken h) < 50000
        → Refusals m (kept m k (taken h)) w (length t) (answers m k row (length work) (length t) s x)
    -- a letter that is kept appends the shortest row of at least one letter after which the text passes and ends with its
    -- window, of equal ones the first in letter order; the letters above k count as filled in
    pub grows : (x : K) (work : List ℕ) (n f : ℕ) → answers m k row (length work) (length t) s x ≡ Ok (Kept n f)
        → (r : List K) × Least number (Continues m (text h t) (last k (since (taken h) ++ x ∷ []))) r
        × (n ≡ length r) × (f ≡ n - k) × (take (appended h + n) (writes m k row (length work) s x t) ≡ text h t ++ r)
    -- close returns the letters taken, the kept and the skipped windows, the text's letters and those filled in
    pub closed : close s ≡ tally m k h

  abbrev pub SheetLaw : Type 0
  SheetLaw =
      Lawful m → opening m k ≡ Ok opened → Rows m number k row
      → (h : List (Turn K)) → Exact m k row t0 h → Followed h (after m k row t0 h).0 (after m k row t0 h).1
