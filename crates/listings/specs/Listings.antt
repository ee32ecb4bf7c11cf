-- A station file from its kind line to its trace, and the automaton that its settings make. Assumes nothing.
--
--   list_model A ps           the automaton of the patterns ps over the letters of A
--   limited m A r go          what go does with the automaton of the settings: m alone, or its pair with the run automaton of
--                             limit r; a limit that is not 1 to 8 is refused, then a pair that is too large
--   take_pattern A reads n w ps bs
--                             the patterns after the pattern line bs, for a list on n records and w words that holds ps
--   Listing K                 what a file says up to its trace, and what is left of it
--   listed A reads n w l f ps xs
--                             the same from the line l on, with the settings f and the patterns ps so far
--   reached A reads n w l f ps xs
--                             how far that comes: the patterns taken, and the number and lines of what is left
use Rattle.std.specs.Prelude.{ℕ, ◌+◌, ◌*◌, cond, ◌&&◌, List, [], ◌∷◌, ◌++◌, length, Some, None, Ok, Err, Option, Result, nat_le, nat_lt, slice_index_or}
use Rattle.models.specs.Alphabet.{Alphabet}
use Rattle.models.specs.Automaton.{Model}
use Rattle.faults.specs.declared.Fault.{Fault}
use Rattle.faults.specs.Causes.{bad_limit, large_pair}
use Rattle.runlaw.specs.Runs.{run_model}
use Rattle.pairlaw.specs.Pairs.{pair_model}
use Rattle.listlaw.specs.Patterns.{coded, states, memory}
use Rattle.listlaw.specs.Table.{after}
use Rattle.lists.specs.Reading.{byte_cause}
use Rattle.files.specs.declared.refusals.Refusal.{Refusal}
use Rattle.texts.specs.Texts.{spelled}
use Rattle.stations.specs.Stations.{Item, Handed, nothing, a_pattern, the_trace, early, bind, onward, take_line}
use Rattle.stations.specs.declared.Form.{Form}
use Rattle.stations.specs.declared.Stage.TheVariants.{Named}

abbrev pub list_model : {K : Type 0} → Alphabet K → List (List K) → Model K
list_model A ps = record {
  count = length (states (coded A ps));
  start = 0;
  next = λ q x. cond (nat_lt q (length (states (coded A ps)))) (after (coded A ps) (slice_index_or (states (coded A ps)) q []) (A.number x)) None;
  memory = memory (coded A ps);
}

abbrev pub with_run : {K T : Type 0} → Model K → Alphabet K → ℕ → (Model K → Result T Fault) → Result T Fault
with_run m A r go =
    cond (nat_le 1 r && nat_le r 8)
    (cond (nat_le (m.count * (1 + r * A.size)) 4096) (go (pair_model m (run_model A r))) (Err (large_pair (m.count * (1 + r * A.size)))))
    (Err (bad_limit r))

abbrev pub limited : {K T : Type 0} → Model K → Alphabet K → Option ℕ → (Model K → Result T Fault) → Result T Fault
limited m A None go = go m
limited m A (Some r) go = with_run m A r go

-- refused if there is a cause
abbrev pub unless : {T : Type 0} → Option Fault → T → Result T Fault
unless None x = Ok x
unless (Some f) x = Err f

abbrev pub take_pattern : {K : Type 0} → Alphabet K → (ℕ → Option K) → ℕ → ℕ → List (List K) → List ℕ → Result (List (List K)) Fault
take_pattern A reads n w ps bs = unless (byte_cause A reads n w ps bs) (ps ++ (spelled reads bs ∷ []))

pub record Listing (K : Type 0) : Type 0 where
  pub form : Form
  pub patterns : List (List K)
  pub trace : List ℕ
  -- the trace's line, and the lines after it
  pub line : ℕ
  pub rest : List Item

-- what a line hands on: nothing, a pattern to take, or the trace; `go` goes on with the settings and patterns
abbrev pub hand : {K : Type 0} → Alphabet K → (ℕ → Option K) → ℕ → ℕ → ℕ → List (List K) → List Item → (Form → List (List K) → Result (Listing K) Refusal) → Form → Handed → Result (Listing K) Refusal
hand A reads n w l ps xs go f nothing = go f ps
hand A reads n w l ps xs go f (a_pattern bs) = onward l (take_pattern A reads n w ps bs) (λ qs. go f qs)
hand A reads n w l ps xs go f (the_trace bs) = Ok (record { form = f; patterns = ps; trace = bs; line = l; rest = xs })

abbrev pub listed : {K : Type 0} → Alphabet K → (ℕ → Option K) → ℕ → ℕ → ℕ → Form → List (List K) → List Item → Result (Listing K) Refusal
listed A reads n w l f ps [] = Err early
listed A reads n w l f ps (x ∷ xs) =
    onward l (bind x (take_line f)) (λ t. hand A reads n w l ps xs (λ g qs. listed A reads n w (l + 1) g qs xs) t.0 t.1)

-- how far it comes with a line: here where the line is refused, or further
abbrev pub further : {A B : Type 0} → Result A Fault → B → (A → B) → B
further (Ok x) here go = go x
further (Err f) here go = here

abbrev pub hand_on : {K B : Type 0} → Alphabet K → (ℕ → Option K) → ℕ → ℕ → List (List K) → B → (Form → List (List K) → B) → Form → Handed → B
hand_on A reads n w ps here go f nothing = go f ps
hand_on A reads n w ps here go f (a_pattern bs) = further (take_pattern A reads n w ps bs) here (λ qs. go f qs)
hand_on A reads n w ps here go f (the_trace bs) = here

abbrev pub reached : {K : Type 0} → Alphabet K → (ℕ → Option K) → ℕ → ℕ → ℕ → Form → List (List K) → List Item → List (List K) × (ℕ × List Item)
reached A reads n w l f ps [] = (ps, (l, []))
reached A reads n w l f ps (x ∷ xs) =
    further (bind x (take_line f)) (ps, (l + 1, xs)) (λ t. hand_on A reads n w ps (ps, (l + 1, xs)) (λ g qs. reached A reads n w (l + 1) g qs xs) t.0 t.1)

-- the settings right after the kind line
abbrev pub fresh : Form
fresh = record { stage = Named; window = None; limit = None }

-- a refusal ends the work; else it goes on
abbrev pub and_then : {A B : Type 0} → Result A Refusal → (A → Result B Refusal) → Result B Refusal
and_then (Ok x) go = go x
and_then (Err e) go = Err e
