-- What the calls answer, and what they leave in the tables. Assumes nothing.
--
--   put b v at room               the answer for a bridge whose row goes to the place at of a text table with so much room
--   put_text b v at text          the text table then
--   appended o v at room          the same for the bridge in an Option; without one no string exists
--   appended_text o v at text     the text table then
--   passed_or o from rest         the refusal of a context that is stopped at the place in o, counted from `from`, or else the rest
--   passed m u v rest             the refusal of a context, the left one first, or else the rest
--   joined A m u v room           the answer of a join whose work table is long enough
--   answer A m u v room words     the answer of a join, with so many words in the work table
--   written o u v text            the text table with the string of a bridge at its front
--   text_after r A m u v text     the text table after the answer r: the joined string and the rest, or as it was
--   work_after m words            the work table after a join: four words for each state zero, or too short and as it was
use Rattle.std.specs.Prelude.{ℕ, ◌+◌, ◌*◌, cond, List, ◌++◌, length, take, drop, replicate, Some, None, Ok, Err, Option, Result, nat_le, nat_lt}
use Rattle.faults.specs.declared.Fault.{Fault}
use Rattle.faults.specs.Causes.{no_string, short_text, short_work, long_context, stopped_context}
use Rattle.models.specs.Alphabet.{Alphabet}
use Rattle.models.specs.Automaton.{Model, stopped}
use Rattle.joinlaw.specs.Bridges.{Bridge, row, join}
use Rattle.joins.specs.declared.answers.Joined.{Joined}

abbrev pub put : {K : Type 0} → Bridge K → List K → ℕ → ℕ → Result Joined Fault
put b v at room =
    cond (nat_le (at + length (row b v)) room)
    (Ok (record { length = at + length (row b v); overlap = b.overlap; filled = length b.filling }))
    (Err (short_text (at + length (row b v))))

abbrev pub put_text : {K : Type 0} → Bridge K → List K → ℕ → List K → List K
put_text b v at text =
    cond (nat_le (at + length (row b v)) (length text)) (take at text ++ (row b v ++ drop (at + length (row b v)) text)) text

abbrev pub appended : {K : Type 0} → Option (Bridge K) → List K → ℕ → ℕ → Result Joined Fault
appended (Some b) v at room = put b v at room
appended None v at room = Err (no_string 0)

abbrev pub appended_text : {K : Type 0} → Option (Bridge K) → List K → ℕ → List K → List K
appended_text (Some b) v at text = put_text b v at text
appended_text None v at text = text

abbrev pub passed_or : {T : Type 0} → Option ℕ → ℕ → Result T Fault → Result T Fault
passed_or (Some i) from rest = Err (stopped_context (from + i))
passed_or None from rest = rest

-- contexts of at most 50,000 letters that pass alone; a place in the right one counts on from the end of the left
abbrev pub passed : {K T : Type 0} → Model K → List K → List K → Result T Fault → Result T Fault
passed m u v rest =
    cond (nat_lt 50000 (length u)) (Err (long_context (length u)))
    (cond (nat_lt 50000 (length v)) (Err (long_context (length v)))
    (passed_or (stopped m u) 0 (passed_or (stopped m v) (length u) rest)))

abbrev pub joined : {K : Type 0} → Alphabet K → Model K → List K → List K → ℕ → Result Joined Fault
joined A m u v room = passed m u v (appended (join A m u v) v (length u) room)

abbrev pub answer : {K : Type 0} → Alphabet K → Model K → List K → List K → ℕ → ℕ → Result Joined Fault
answer A m u v room words = cond (nat_lt words (4 * m.count)) (Err (short_work (4 * m.count))) (joined A m u v room)

abbrev pub written : {K : Type 0} → Option (Bridge K) → List K → List K → List K → List K
written (Some b) u v text = (u ++ row b v) ++ drop (length (u ++ row b v)) text
written None u v text = text

abbrev pub text_after : {K : Type 0} → Result Joined Fault → Alphabet K → Model K → List K → List K → List K → List K
text_after (Ok j) A m u v text = written (join A m u v) u v text
text_after (Err f) A m u v text = text

abbrev pub work_after : {K : Type 0} → Model K → List ℕ → List ℕ
work_after m words = cond (nat_lt (length words) (4 * m.count)) words (replicate (4 * m.count) 0 ++ drop (4 * m.count) words)
