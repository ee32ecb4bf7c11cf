-- A sheet's calls with their answers, and what they tell of windows, text and counts by themselves. Assumes nothing.
--
--   Turn K           a call and its answer: a letter, with what its work table held before and after, or a gap.
--                    A list of turns has the latest first
--   Added K          letters and gaps taken, and how many letters are appended and how many of these filled in
--   adds c           what a call adds: itself to what is taken, letters to the text; nothing if it is refused
--   taken h          the letters and gaps taken, the refused ones struck, in the order of time
--   appended h       the letters that the kept answers appended together
--   filled h         the letters that they filled in together
--   letters es       the letters among the letters and gaps es
--   since es         the letters of es since the opening or the last gap
--   windows k es     every k neighbouring letters, no gap among them, in order
--   passes m w       whether the letters w pass alone
--   kept m k es      those of the windows that pass alone
--   skipped m k es   those that do not
--   tally m k h      the five counts of the calls
use Rattle.std.specs.Prelude.{ℕ, ◌+◌, Bool, cond, not, List, [], ◌∷◌, ◌++◌, length, take, is_some, Ok, Err, filter, Result, ◌==◌}
use Rattle.faults.specs.declared.Fault.{Fault}
use Rattle.models.specs.Automaton.{Model, run}
use Rattle.sheetlaw.specs.declared.Event.{Event}
use Rattle.sheetlaw.specs.declared.Event.TheVariants.{Letter, Gap}
use Rattle.sheetlaw.specs.declared.Answer.{Answer}
use Rattle.sheetlaw.specs.declared.Answer.TheVariants.{Pending, Skipped, Kept}
use Rattle.sheetlaw.specs.declared.Counts.{Counts}

pub data Turn (K : Type 0) : Type 0 where
  letter : (x : K) (work : List ℕ) (answer : Result Answer Fault) (left : List ℕ) → Turn K
  gap : (answer : Result (Unit {0}) Fault) → Turn K

pub record Added (K : Type 0) : Type 0 where
  pub events : List (Event K)
  pub appended : ℕ
  pub filled : ℕ

module _ {K : Type 0} where
  abbrev pub adds : Turn K → Added K
  adds (letter x _ (Ok Pending) _) = record { events = Letter x ∷ []; appended = 0; filled = 0 }
  adds (letter x _ (Ok Skipped) _) = record { events = Letter x ∷ []; appended = 0; filled = 0 }
  adds (letter x _ (Ok (Kept n f)) _) = record { events = Letter x ∷ []; appended = n; filled = f }
  adds (letter x _ (Err _) _) = record { events = []; appended = 0; filled = 0 }
  adds (gap (Ok _)) = record { events = Gap ∷ []; appended = 0; filled = 0 }
  adds (gap (Err _)) = record { events = []; appended = 0; filled = 0 }

  abbrev pub taken : List (Turn K) → List (Event K)
  taken [] = []
  taken (c ∷ h) = taken h ++ (adds c).events

  abbrev pub appended : List (Turn K) → ℕ
  appended [] = 0
  appended (c ∷ h) = appended h + (adds c).appended

  abbrev pub filled : List (Turn K) → ℕ
  filled [] = 0
  filled (c ∷ h) = filled h + (adds c).filled

  abbrev pub letters : List (Event K) → List K
  letters [] = []
  letters (Letter x ∷ es) = x ∷ letters es
  letters (Gap ∷ es) = letters es

  -- the same, with the letters xs before es
  abbrev pub run_on : List K → List (Event K) → List K
  run_on xs [] = xs
  run_on xs (Letter x ∷ es) = run_on (xs ++ x ∷ []) es
  run_on xs (Gap ∷ es) = run_on [] es

  abbrev pub since : List (Event K) → List K
  since es = run_on [] es

  -- the one window that es is, if it is k letters and no gap
  abbrev pub whole : ℕ → List (Event K) → List (List K)
  whole k es = cond (length (letters es) == k) (letters es ∷ []) []

  abbrev pub windows : ℕ → List (Event K) → List (List K)
  windows k [] = []
  windows k (e ∷ es) = whole k (take k (e ∷ es)) ++ windows k es

  abbrev pub passes : Model K → List K → Bool
  passes m w = is_some (run m w)

  abbrev pub kept : Model K → ℕ → List (Event K) → List (List K)
  kept m k es = filter (passes m) (windows k es)

  abbrev pub skipped : Model K → ℕ → List (Event K) → List (List K)
  skipped m k es = filter (λ w. not (passes m w)) (windows k es)

  -- the letters taken, the windows kept and skipped, the letters appended and filled in
  abbrev pub tally : Model K → ℕ → List (Turn K) → Counts
  tally m k h = record {
    letters = length (letters (taken h));
    kept = length (kept m k (taken h));
    skipped = length (skipped m k (taken h));
    text = appended h;
    filled = filled h;
  }
