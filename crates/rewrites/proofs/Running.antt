-- What a trace comes to, from what the calls on a sheet of its own ensure. Assumes nothing.
use Rattle.std.proofs.Common.{◌≡◌, ℕ, List, Ok, Err, Option, Result, sym, ap, ◌∙◌}
use Rattle.faults.specs.declared.Fault.{Fault}
use Rattle.models.specs.Alphabet.{Alphabet}
use Rattle.models.specs.Automaton.{Model}
use Rattle.stations.specs.Stations.{bind}
use Rattle.sheetlaw.specs.Step.{Contents, opening, close}
use Rattle.rewritelaw.specs.Traces.{fed_as, fed, left_as, unless_refused, closed, rewritten}

module _ {K : Type 0} (A : Alphabet K) (parsed : ℕ → Option ℕ) (m : Model K) (k : ℕ) (bs : List ℕ) (t : List K) (v : List ℕ) where
  -- a sheet that is not opened
  pub unopened : (f : Fault) → opening m k ≡ Err f → left_as (Err f) t v ≡ rewritten A parsed m k bs t v
  unfolding rewritten
  unopened f e = sym (ap (λ o. unless_refused o t v (λ s. closed (fed A parsed m k 0 bs s t v))) e)

  pub ran : (s s' : Contents K) (t' : List K) (v' : List ℕ) (r : Result (Unit {0}) Fault) (m' : Model K) (k' : ℕ) → opening m k ≡ Ok s → m' ≡ m → k' ≡ k
      → fed_as r s' t' v' ≡ fed A parsed m' k' 0 bs s t v
      → left_as (bind r (λ _. Ok (close s'))) t' v' ≡ rewritten A parsed m k bs t v
  unfolding rewritten
  ran s s' t' v' r m' k' o em ek e =
      ap closed (e ∙ ap (λ n. fed A parsed n k' 0 bs s t v) em ∙ ap (λ n. fed A parsed m n 0 bs s t v) ek)
      ∙ sym (ap (λ o. unless_refused o t v (λ s. closed (fed A parsed m k 0 bs s t v))) o)
