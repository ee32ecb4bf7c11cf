-- Texts as bytes of a printable kind. Assumes nothing.
--
--   reading A parsed b   the letter of A that the byte b reads as, if there is one; `parsed` gives its number
--   stray reads bs       the place of the first byte that reads as no letter, or None
--   spelled reads bs     the letters that the bytes read as, one after another
--   checked m reads bs   the place of the letter at which a text is stopped, or None; or that a byte is no letter
--   byte_next m reads    the automaton's steps over bytes: a byte that is no letter stops
use Rattle.std.specs.Prelude.{ℕ, List, [], ◌∷◌, Some, None, Ok, Err, Option, Result}
use Rattle.models.specs.Alphabet.{Alphabet, lettered}
use Rattle.models.specs.Automaton.{Next, Model, later, stopped}
use Rattle.faults.specs.declared.Fault.{Fault}
use Rattle.faults.specs.Causes.{no_letter}

abbrev pub reading : {K : Type 0} → Alphabet K → (ℕ → Option ℕ) → ℕ → Option K
reading A parsed b = lettered A (parsed b)

-- a byte that is no letter is at place 0, else the place is one in what follows
abbrev pub stray_or : {K : Type 0} → Option K → Option ℕ → Option ℕ
stray_or (Some x) rest = later rest
stray_or None rest = Some 0

abbrev pub stray : {K : Type 0} → (ℕ → Option K) → List ℕ → Option ℕ
stray reads [] = None
stray reads (b ∷ bs) = stray_or (reads b) (stray reads bs)

-- a letter, if there is one, before others
abbrev pub before : {K : Type 0} → Option K → List K → List K
before (Some x) rest = x ∷ rest
before None rest = rest

abbrev pub spelled : {K : Type 0} → (ℕ → Option K) → List ℕ → List K
spelled reads [] = []
spelled reads (b ∷ bs) = before (reads b) (spelled reads bs)

-- what is done with a text, unless a byte of it is no letter
abbrev pub unless_stray : {T : Type 0} → Option ℕ → T → Result T Fault
unless_stray None x = Ok x
unless_stray (Some i) x = Err (no_letter i)

abbrev pub checked : {K : Type 0} → Model K → (ℕ → Option K) → List ℕ → Result (Option ℕ) Fault
checked m reads bs = unless_stray (stray reads bs) (stopped m (spelled reads bs))

-- the step with a letter, if there is one
abbrev pub step_with : {K : Type 0} → (K → Option ℕ) → Option K → Option ℕ
step_with f (Some x) = f x
step_with f None = None

abbrev pub byte_next : {K : Type 0} → Model K → (ℕ → Option K) → Next ℕ
byte_next m reads q b = step_with (m.next q) (reads b)
