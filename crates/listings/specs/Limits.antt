-- What an automaton under a run limit means. Assumes nothing.
--
--   model_of m A s          the automaton of s: it alone, or its pair with the run automaton. m is the meaning of the one, and A
--                           the letters of both
--   model_of_result m A r   the same of an answer r, which may be a refusal
use Rattle.std.specs.Prelude.{Ok, Err, Result}
use Rattle.models.specs.Alphabet.{Alphabet}
use Rattle.models.specs.Automaton.{Model}
use Rattle.faults.specs.declared.Fault.{Fault}
use Rattle.runlaw.specs.Runs.{run_model}
use Rattle.pairlaw.specs.Pairs.{pair_model}
use Rattle.listings.specs.declared.limits.Limited.{Limited}
use Rattle.listings.specs.declared.limits.Limited.TheVariants.{Alone, Both}

abbrev pub model_of : {P K : Type 0} → (P → Model K) → Alphabet K → Limited P K → Model K
model_of m A (Alone p) = m p
model_of m A (Both b) = pair_model (m b.left) (run_model A b.right.limit)

abbrev pub model_of_result : {P K : Type 0} → (P → Model K) → Alphabet K → Result (Limited P K) Fault → Result (Model K) Fault
model_of_result m A (Ok s) = Ok (model_of m A s)
model_of_result m A (Err f) = Err f
