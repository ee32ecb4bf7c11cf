-- What one call of a sheet answers and leaves. Everything here can be computed.
--
--   Contents K           what a sheet holds between two calls
--   opening m k          what opening a sheet on the automaton m with windows of k letters answers
--   close s              what close returns
--   window k s x         the running window with the letter x
--   Outcome K            what a letter does that is not refused
--   decide .. s x        what the letter x will do, or why it is refused: the order of the causes
--   answer k d           what a letter with the outcome d answers
--   carry k s x d        the sheet after it
--   append s t d         the text table t after it
--   answers, leaves, writes, cleared
--                        what the letter x answers, and what it leaves in the sheet, in the text table and in its work table
--   pauses, leaves_gap   what a gap answers, and what it leaves in the sheet
--
-- A letter is decided from the automaton m, the window length k, the row that leads from one window to another, the number
-- `work` of words in its work table and the number `room` of letters in the text table. What the tables hold is not read.
use Rattle.std.specs.Prelude.{ℕ, ◌+◌, ◌-◌, ◌*◌, Bool, cond, ◌||◌, List, [], ◌∷◌, ◌++◌, length, take, drop, replicate, Some, None, Ok, Err, Option, Result, nat_le, nat_lt}
use Rattle.faults.specs.declared.Fault.{Fault}
use Rattle.faults.specs.Causes.{bad_window, long_memory, short_work, full_sheet, no_string, short_text}
use Rattle.models.specs.Automaton.{Model, last}
use Rattle.sheetlaw.specs.Calls.{passes}
use Rattle.sheetlaw.specs.declared.Answer.{Answer}
use Rattle.sheetlaw.specs.declared.Answer.TheVariants.{Pending, Skipped, Kept}
use Rattle.sheetlaw.specs.declared.Counts.{Counts}

pub record Contents (K : Type 0) : Type 0 where
  -- the running window: the last k letters taken since the opening or the last gap, or all if fewer
  pub running : List K
  -- the last kept window, if one is kept
  pub latest : Option (List K)
  -- how many letters and gaps are taken
  pub taken : ℕ
  pub counts : Counts

-- refused with f if the test holds, else r
abbrev pub refuse_if : {A : Type 0} → Bool → Fault → Result A Fault → Result A Fault
refuse_if test f r = cond test (Err f) r

-- refused with f if there is nothing, else r of it
abbrev pub refuse_none : {A B : Type 0} → Option A → Fault → (A → Result B Fault) → Result B Fault
refuse_none None f r = Err f
refuse_none (Some a) f r = r a

-- g of what was decided if the call is taken, b if it is refused
abbrev pub if_taken : {A B : Type 0} → Result A Fault → (A → B) → B → B
if_taken (Ok a) g b = g a
if_taken (Err f) g b = b

abbrev pub opened : {K : Type 0} → Contents K
opened = record { running = []; latest = None; taken = 0; counts = record { letters = 0; kept = 0; skipped = 0; text = 0; filled = 0 } }

abbrev pub opening : {K : Type 0} → Model K → ℕ → Result (Contents K) Fault
opening m k =
    refuse_if (nat_lt k 2 || nat_lt 12 k) (bad_window k)
    (refuse_if (nat_lt k m.memory) (long_memory m.memory)
    (Ok opened))

abbrev pub close : {K : Type 0} → Contents K → Counts
close s = s.counts

-- Deciding what a letter will do

pub data Outcome (K : Type 0) : Type 0 where
  -- fewer than k letters run then
  wait : Outcome K
  -- the k letters do not pass alone
  skip : Outcome K
  -- the window is kept, and the row is appended for it
  keep : (window row : List K) → Outcome K

abbrev pub window : {K : Type 0} → ℕ → Contents K → K → List K
window k s x = last k (s.running ++ x ∷ [])

-- the words that a letter needs of its work table: four for each state
abbrev pub needs : {K : Type 0} → Model K → ℕ
needs m = 4 * m.count

-- the row for the window w after the last kept one; the first kept window becomes the text, so it is its own row
abbrev pub row_to : {K : Type 0} → (List K → List K → Option (List K)) → Option (List K) → List K → Option (List K)
row_to row None w = Some w
row_to row (Some u) w = row u w

module _ {K : Type 0} (m : Model K) (k : ℕ) (row : List K → List K → Option (List K)) where
  abbrev pub decide : (work room : ℕ) → Contents K → K → Result (Outcome K) Fault
  decide work room s x =
      let w = window k s x in
      refuse_if (nat_lt work (needs m)) (short_work (needs m))
      (refuse_if (nat_le 50000 s.taken) full_sheet
      (cond (nat_lt (length w) k) (Ok wait)
      (cond (passes m w) (
      refuse_none (row_to row s.latest w) (no_string s.taken) (λ r.
      refuse_if (nat_lt room (s.counts.text + length r)) (short_text (s.counts.text + length r))
      (Ok (keep w r))))
      (Ok skip))))

-- Carrying it out

-- filled is the row's length less k, or 0 if that is less
abbrev pub answer : {K : Type 0} → ℕ → Outcome K → Answer
answer k wait = Pending
answer k skip = Skipped
answer k (keep w r) = Kept (length r) (length r - k)

abbrev pub count : {K : Type 0} → ℕ → Counts → Outcome K → Counts
count k c wait = record { letters = c.letters + 1; kept = c.kept; skipped = c.skipped; text = c.text; filled = c.filled }
count k c skip = record { letters = c.letters + 1; kept = c.kept; skipped = c.skipped + 1; text = c.text; filled = c.filled }
count k c (keep w r) = record { letters = c.letters + 1; kept = c.kept + 1; skipped = c.skipped; text = c.text + length r; filled = c.filled + (length r - k) }

abbrev pub newest : {K : Type 0} → Option (List K) → Outcome K → Option (List K)
newest u wait = u
newest u skip = u
newest u (keep w r) = Some w

abbrev pub carry : {K : Type 0} → ℕ → Contents K → K → Outcome K → Contents K
carry k s x d = record { running = window k s x; latest = newest s.latest d; taken = s.taken + 1; counts = count k s.counts d }

-- the table t with the letters r from the place n on, and no other place changed
abbrev pub write : {K : Type 0} → ℕ → List K → List K → List K
write n r t = take n t ++ (r ++ drop (n + length r) t)

abbrev pub append : {K : Type 0} → Contents K → List K → Outcome K → List K
append s t wait = t
append s t skip = t
append s t (keep w r) = write s.counts.text r t

-- What a call answers and leaves

-- the first n words are zero, and the others as they were; a work table that is too short is as it was
abbrev pub cleared : ℕ → List ℕ → List ℕ
cleared n work = cond (nat_lt (length work) n) work (replicate n 0 ++ drop n work)

abbrev pub said : {K : Type 0} → ℕ → Result (Outcome K) Fault → Result Answer Fault
said k (Ok d) = Ok (answer k d)
said k (Err f) = Err f

module _ {K : Type 0} (m : Model K) (k : ℕ) (row : List K → List K → Option (List K)) where
  abbrev pub answers : (work room : ℕ) → Contents K → K → Result Answer Fault
  answers work room s x = said k (decide m k row work room s x)

  abbrev pub leaves : (work room : ℕ) → Contents K → K → Contents K
  leaves work room s x = if_taken (decide m k row work room s x) (carry k s x) s

  abbrev pub writes : (work : ℕ) → Contents K → K → List K → List K
  writes work s x t = if_taken (decide m k row work (length t) s x) (append s t) t

-- a gap empties the running window
abbrev pub pauses : {K : Type 0} → Contents K → Result (Unit {0}) Fault
pauses s = refuse_if (nat_le 50000 s.taken) full_sheet (Ok tt)

abbrev pub pause : {K : Type 0} → Contents K → Contents K
pause s = record { running = []; latest = s.latest; taken = s.taken + 1; counts = s.counts }

abbrev pub leaves_gap : {K : Type 0} → Contents K → Contents K
leaves_gap s = if_taken (pauses s) (λ _. pause s) s
