-- Patterns that are read from bytes. Assumes nothing.
--
--   byte_cause ..         why a list refuses the bytes, if it does: first that one is no letter, then as for the pattern that they spell
use Rattle.std.specs.Prelude.{ℕ, List, Some, None, Option}
use Rattle.models.specs.Alphabet.{Alphabet}
use Rattle.faults.specs.declared.Fault.{Fault}
use Rattle.faults.specs.Causes.{no_letter}
use Rattle.texts.specs.Texts.{stray, spelled}
use Rattle.lists.specs.Taking.{cause}

abbrev pub stray_cause : Option ℕ → Option Fault → Option Fault
stray_cause (Some i) rest = Some (no_letter i)
stray_cause None rest = rest

abbrev pub byte_cause : {K : Type 0} → Alphabet K → (ℕ → Option K) → ℕ → ℕ → List (List K) → List ℕ → Option Fault
byte_cause A reads n m ps bytes = stray_cause (stray reads bytes) (cause A n m ps (spelled reads bytes))
