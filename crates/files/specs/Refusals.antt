-- The refusal line. Assumes nothing.
--
--   refusal_line r   `R`, the number in 4 columns, the layer's letter, the place in 6, the line in 6, and a newline
--   at_line r n      what came out of line n: a fault is refused there
use Rattle.std.specs.Prelude.{ℕ, List, [], ◌∷◌, ◌++◌, Ok, Err, Result}
use Rattle.faults.specs.declared.Fault.{Fault}
use Rattle.faults.specs.Causes.{number_of, place_of, layer_byte}
use Rattle.pages.specs.Pages.{columns}
use Rattle.files.specs.declared.refusals.Refusal.{Refusal}

abbrev pub refusal_line : Refusal → List ℕ
refusal_line r = 82 ∷ (columns 4 (number_of r.fault) ++ (layer_byte r.fault ∷ (columns 6 (place_of r.fault) ++ (columns 6 r.line ++ (10 ∷ [])))))

abbrev pub at_line : {T : Type 0} → Result T Fault → ℕ → Result T Refusal
at_line (Ok x) n = Ok x
at_line (Err f) n = Err (record { fault = f; line = n })
