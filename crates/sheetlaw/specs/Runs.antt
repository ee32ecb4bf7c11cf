-- A list of calls, by the definitions of one call. Everything but `Exact` can be computed.
--
--   after .. t h     the sheet and the text table, which first held t, after the calls h
--   Exact .. t h     each of the calls h answered, and left in its work table, what the definitions of one call give for the
--                    opening and the calls up to it
--   turn .. t h e    the letter or gap e after the calls h, with what the definitions give for it; a letter brings the work
--                    table that stands beside it
--   turns .. t h es  the calls h and then the letters and gaps es, with what the definitions give for them
use Rattle.std.specs.Prelude.{◌≡◌, ℕ, List, [], ◌∷◌, length, Option}
use Rattle.models.specs.Automaton.{Model}
use Rattle.sheetlaw.specs.Calls.{Turn, letter, gap}
use Rattle.sheetlaw.specs.Step.{Contents, opened, needs, answers, leaves, writes, cleared, pauses, leaves_gap}
use Rattle.sheetlaw.specs.declared.Event.{Event}
use Rattle.sheetlaw.specs.declared.Event.TheVariants.{Letter, Gap}

module _ {K : Type 0} (m : Model K) (k : ℕ) (row : List K → List K → Option (List K)) where
  abbrev pub after : List K → List (Turn K) → Contents K × List K
  after t [] = (opened, t)
  after t (letter x work _ _ ∷ h) =
      let u = after t h in (leaves m k row (length work) (length u.1) u.0 x, writes m k row (length work) u.0 x u.1)
  after t (gap _ ∷ h) =
      let u = after t h in (leaves_gap u.0, u.1)

  abbrev pub Exact : List K → List (Turn K) → Type 0
  Exact t [] = Unit {0}
  Exact t (letter x work r left ∷ h) =
      let u = after t h in Exact t h × (r ≡ answers m k row (length work) (length u.1) u.0 x) × (left ≡ cleared (needs m) work)
  Exact t (gap r ∷ h) =
      let u = after t h in Exact t h × (r ≡ pauses u.0)

  abbrev pub turn : List K → List (Turn K) → Event K × List ℕ → Turn K
  turn t h (Letter x, work) =
      let u = after t h in letter x work (answers m k row (length work) (length u.1) u.0 x) (cleared (needs m) work)
  turn t h (Gap, _) = gap (pauses (after t h).0)

  abbrev pub turns : List K → List (Turn K) → List (Event K × List ℕ) → List (Turn K)
  turns t h [] = h
  turns t h (e ∷ es) = turns t (turn t h e ∷ h) es
