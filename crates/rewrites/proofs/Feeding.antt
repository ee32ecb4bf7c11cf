-- One byte more of a trace. Assumes nothing.
use Rattle.std.proofs.Common.{◌≡◌, ℕ, ◌+◌, ◌<◌, ◌≤◌, List, length, get_or, drop, Some, None, Ok, Err, Option, Result, sym, ap, ◌∙◌}
use Rattle.std.proofs.lemmas.List.{at_drop_more, at_drop_all}
use Rattle.faults.specs.declared.Fault.{Fault}
use Rattle.faults.specs.Causes.{no_letter}
use Rattle.models.specs.Alphabet.{Alphabet}
use Rattle.models.specs.Automaton.{Model}
use Rattle.sheetlaw.specs.Step.{Contents, needs, answers, leaves, writes, cleared}
use Rattle.sheetlaw.specs.NextRow.{row_of}
use Rattle.sheetlaw.specs.declared.Answer.{Answer}
use Rattle.rewritelaw.specs.Traces.{fed_as, refusal, go_on, fed_letter, fed_byte, fed}

same-fed : {K : Type 0} (r r' : Result (Unit {0}) Fault) (s s' : Contents K) (t t' : List K) (v v' : List ℕ) → r ≡ r' → s ≡ s' → t ≡ t' → v ≡ v' → fed_as r s t v ≡ fed_as r' s' t' v'
same-fed r r' s s' t t' v v' er es et ev = ap (λ u. fed_as u s t v) er ∙ ap (λ u. fed_as r' u t v) es ∙ ap (λ u. fed_as r' s' u v) et ∙ ap (fed_as r' s' t') ev

module _ {K : Type 0} (A : Alphabet K) (parsed : ℕ → Option ℕ) (m : Model K) (k : ℕ) where
  pub letter-fed : (i : ℕ) (o : Option K) (x : K) (s s' : Contents K) (t t' : List K) (v v' : List ℕ) (a : Result Answer Fault) (r : Result (Unit {0}) Fault)
      → o ≡ Some x → r ≡ refusal a → a ≡ answers m k (row_of A m) (length v) (length t) s x
      → s' ≡ leaves m k (row_of A m) (length v) (length t) s x → t' ≡ writes m k (row_of A m) (length v) s x t → v' ≡ cleared (needs m) v
      → fed_as r s' t' v' ≡ fed_letter A parsed m k i o s t v
  unfolding fed_letter
  letter-fed i o x s s' t t' v v' a r eo er ea es et ev =
      same-fed r _ s' _ t' _ v' _ (er ∙ ap refusal ea) es et ev ∙ sym (ap (λ u. fed_letter A parsed m k i u s t v) eo)

  pub none-fed : (i : ℕ) (o : Option K) (s : Contents K) (t : List K) (v : List ℕ) (f : Fault) → o ≡ None → f ≡ no_letter i → fed_as (Err f) s t v ≡ fed_letter A parsed m k i o s t v
  unfolding fed_letter
  none-fed i o s t v f eo ef = ap (λ u. fed_as (Err u) s t v) ef ∙ sym (ap (λ u. fed_letter A parsed m k i u s t v) eo)

  -- a byte that is taken or refused, and what is left of the trace
  pub fed-more : (bs : List ℕ) (i : ℕ) (s s' : Contents K) (t t' : List K) (v v' : List ℕ) (r : Result (Unit {0}) Fault) (m' : Model K) (k' : ℕ) → i < length bs → m' ≡ m → k' ≡ k
      → fed_as r s' t' v' ≡ fed_byte A parsed m' k' i (get_or bs i 0) s t v
      → go_on r s' t' v' (fed A parsed m k (i + 1) (drop (i + 1) bs)) ≡ fed A parsed m k i (drop i bs) s t v
  unfolding fed
  fed-more bs i s s' t t' v v' r m' k' l em ek e =
      let same : fed_as r s' t' v' ≡ fed_byte A parsed m k i (get_or bs i 0) s t v =
      e
      ∙ ap (λ n. fed_byte A parsed n k' i (get_or bs i 0) s t v) em
      ∙ ap (λ n. fed_byte A parsed m n i (get_or bs i 0) s t v) ek in
      ap (λ f. go_on f.answer f.sheet f.table f.work (fed A parsed m k (i + 1) (drop (i + 1) bs))) same
      ∙ sym (at_drop_more (λ ys. fed A parsed m k i ys s t v) bs i 0 l)

  pub fed-all : (bs : List ℕ) (i : ℕ) (s : Contents K) (t : List K) (v : List ℕ) → length bs ≤ i → fed_as (Ok tt) s t v ≡ fed A parsed m k i (drop i bs) s t v
  unfolding fed
  fed-all bs i s t v l = sym (at_drop_all (λ ys. fed A parsed m k i ys s t v) bs i l)
