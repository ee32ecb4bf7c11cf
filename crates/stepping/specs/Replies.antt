-- The line of a call on a sheet. Assumes nothing.
--
--   fault_part f          why a call is refused: the number, the layer's letter and the place
--   answer_part a         what a letter did that is not refused
--   letter_part r         what a letter answered
--   gap_part r            what a gap answered
--   turn_line A printed i c
--                         the line of the call c at the place i: the place, the byte, and what it answered
--   step_lines A printed h
--                         the lines of the calls h, of which the latest stands first, in the order of time
--   is_taken c            whether the call c is taken
--   all_taken h           whether all of the calls h are
use Rattle.std.specs.Prelude.{ℕ, Bool, true, ◌&&◌, List, [], ◌∷◌, ◌++◌, length, is_ok, Ok, Err, codes, Result}
use Rattle.faults.specs.declared.Fault.{Fault}
use Rattle.faults.specs.Causes.{number_of, place_of, layer_byte}
use Rattle.models.specs.Alphabet.{Alphabet}
use Rattle.pages.specs.Pages.{labelled}
use Rattle.sheetlaw.specs.Calls.{Turn, letter, gap}
use Rattle.sheetlaw.specs.declared.Answer.{Answer}
use Rattle.sheetlaw.specs.declared.Answer.TheVariants.{Pending, Skipped, Kept}

abbrev pub fault_part : Fault → List ℕ
fault_part f = labelled (codes " refused: ") (number_of f) (32 ∷ []) ++ (layer_byte f ∷ labelled (32 ∷ []) (place_of f) (10 ∷ []))

abbrev pub answer_part : Answer → List ℕ
answer_part Pending = codes " pending\n"
answer_part Skipped = codes " skipped\n"
answer_part (Kept n f) = labelled (codes " kept: ") n (codes " appended, ") ++ labelled [] f (codes " filled\n")

abbrev pub letter_part : Result Answer Fault → List ℕ
letter_part (Ok a) = answer_part a
letter_part (Err f) = fault_part f

abbrev pub gap_part : Result (Unit {0}) Fault → List ℕ
gap_part (Ok a) = codes " gap\n"
gap_part (Err f) = fault_part f

abbrev pub is_taken : {K : Type 0} → Turn K → Bool
is_taken (letter x work r left) = is_ok r
is_taken (gap r) = is_ok r

abbrev pub all_taken : {K : Type 0} → List (Turn K) → Bool
all_taken [] = true
all_taken (c ∷ h) = all_taken h && is_taken c

module _ {K : Type 0} (A : Alphabet K) (printed : ℕ → ℕ) where
  abbrev pub turn_line : ℕ → Turn K → List ℕ
  turn_line i (letter x work r left) = labelled [] i (32 ∷ []) ++ (printed (A.number x) ∷ letter_part r)
  turn_line i (gap r) = labelled [] i (codes " ?") ++ gap_part r

  abbrev pub step_lines : List (Turn K) → List ℕ
  step_lines [] = []
  step_lines (c ∷ h) = step_lines h ++ turn_line (length h) c
