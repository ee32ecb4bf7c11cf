-- A station file from the line after its kind line to its end, whatever is asked of its trace. Assumes nothing.
--
--   Judge K T                            a question: what is found of a trace under an automaton and a run limit
--   judged A judge l                     what is found of the trace of a listing, refused at its line
--   body A reads judge report n w l xs   the report on the lines xs from the line l on: the patterns are listed, the
--                                        trace is judged, and then only remarks may follow
use Rattle.std.specs.Prelude.{ℕ, ◌+◌, List, [], length, Ok, Option, Result}
use Rattle.models.specs.Alphabet.{Alphabet}
use Rattle.models.specs.Automaton.{Model}
use Rattle.faults.specs.declared.Fault.{Fault}
use Rattle.files.specs.Refusals.{at_line}
use Rattle.files.specs.declared.refusals.Refusal.{Refusal}
use Rattle.stations.specs.Stations.{Item, ended}
use Rattle.listings.specs.Listings.{Listing, list_model, listed, fresh, and_then}

abbrev pub Judge : Type 0 → Type 0 → Type 0
Judge K T = Model K → Option ℕ → List ℕ → Result T Fault

abbrev pub judged : {K T : Type 0} → Alphabet K → Judge K T → Listing K → Result T Refusal
judged A judge l = at_line (judge (list_model A l.patterns) l.form.limit l.trace) l.line

abbrev pub body : {K T R : Type 0} → Alphabet K → (ℕ → Option K) → Judge K T → (ℕ → Option ℕ → T → R) → ℕ → ℕ → ℕ → List Item → Result R Refusal
body A reads judge report n w l xs =
    and_then (listed A reads n w l fresh [] xs) (λ d. and_then (judged A judge d) (λ f. and_then (ended (d.line + 1) d.rest) (λ _. Ok (report (length d.patterns) d.form.limit f))))
