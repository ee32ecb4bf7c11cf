-- What the body of a file comes to, once it is read up to its trace. Assumes nothing.
use Rattle.std.proofs.Common.{◌≡◌, ℕ, ◌+◌, List, [], length, Ok, Option, Result, sym, ap, ◌∙◌, subst}
use Rattle.models.specs.Alphabet.{Alphabet}
use Rattle.models.specs.Automaton.{Model}
use Rattle.faults.specs.declared.Fault.{Fault}
use Rattle.files.specs.Lines.{items}
use Rattle.files.specs.Refusals.{at_line}
use Rattle.files.specs.declared.refusals.Refusal.{Refusal}
use Rattle.listlaw.specs.Table.{Means}
use Rattle.lists.specs.History.{Holds}
use Rattle.lists.specs.Meaning.{listed as listed_model}
use Rattle.lists.specs.declared.builder.Builder.{Builder}
use Rattle.lists.specs.declared.listed.Listed.{Listed}
use Rattle.texts.specs.Texts.{reading}
use Rattle.stations.specs.Stations.{Item, ended}
use Rattle.stations.specs.declared.Kind.{Kind}
use Rattle.listings.specs.Listings.{Listing, list_model, limited, listed, fresh, and_then}
use Rattle.listings.specs.Reads.{ReadAs}
use Rattle.listings.specs.declared.Preface.{Preface}
use Rattle.listings.proofs.Models.{listed_is}
use Rattle.listings.proofs.Prefaces.{read_ok}
use Rattle.checks.specs.Reports.{finding}
use Rattle.checks.specs.Outcomes.{report_of, judged, body}
use Rattle.checks.specs.declared.report.Finding.{Finding}

module _ {K : Type 0} (A : Alphabet K) (parsed : ℕ → Option ℕ) (kind : Kind) (n w l : ℕ) (xs : List Item) (x : Listing K) (e : listed A (reading A parsed) n w l fresh [] xs ≡ Ok x) (m : Model K) (em : m ≡ list_model A x.patterns) (r : Preface) (ef : r.form ≡ x.form) (et : r.trace.now ≡ x.trace) (line : ℕ) (el : line ≡ x.line) where
  judged_is : at_line (limited m A r.form.limit (λ u. finding u (reading A parsed) r.trace.now)) line ≡ judged A parsed x
  judged_is =
      ap (λ u. at_line (limited u A r.form.limit (λ u. finding u (reading A parsed) r.trace.now)) line) em
      ∙ ap (λ f. at_line (limited (list_model A x.patterns) A f.limit (λ u. finding u (reading A parsed) r.trace.now)) line) ef
      ∙ ap (λ t. at_line (limited (list_model A x.patterns) A x.form.limit (λ u. finding u (reading A parsed) t)) line) et
      ∙ ap (λ k. at_line (limited (list_model A x.patterns) A x.form.limit (λ u. finding u (reading A parsed) x.trace)) k) el

  -- what was found, and what the lines after the trace come to
  pub body_is : (found : Result Finding Refusal) → found ≡ at_line (limited m A r.form.limit (λ u. finding u (reading A parsed) r.trace.now)) line
      → (t : Result (Unit {0}) Refusal) → t ≡ ended (x.line + 1) x.rest → (p : ℕ) → p ≡ length x.patterns
      → and_then found (λ f. and_then t (λ _. Ok (record { heading = record { kind = kind; patterns = p; limit = r.form.limit }; finding = f }))) ≡ body kind A parsed n w l xs
  body_is found efound t tail p ep =
      ap (λ o. and_then o (λ f. and_then t (λ _. Ok (record { heading = record { kind = kind; patterns = p; limit = r.form.limit }; finding = f })))) (efound ∙ judged_is)
      ∙ ap (λ o. and_then (judged A parsed x) (λ f. and_then o (λ _. Ok (record { heading = record { kind = kind; patterns = p; limit = r.form.limit }; finding = f })))) tail
      ∙ ap (λ c. and_then (judged A parsed x) (λ f. and_then (ended (x.line + 1) x.rest) (λ _. Ok (record { heading = record { kind = kind; patterns = c; limit = r.form.limit }; finding = f })))) ep
      ∙ ap (λ s. and_then (judged A parsed x) (λ f. and_then (ended (x.line + 1) x.rest) (λ _. Ok (record { heading = record { kind = kind; patterns = length x.patterns; limit = s.limit }; finding = f })))) ef
      ∙ sym (ap (λ d. and_then d (λ d. and_then (judged A parsed d) (λ f. and_then (ended (d.line + 1) d.rest) (λ _. Ok (report_of kind d f))))) e)

-- from what the calls on the way ensure: reading up to the trace, finishing the list, judging, and reading the rest
module _ {K : Type 0} (A : Alphabet K) (parsed : ℕ → Option ℕ) (kind : Kind) (n w l : ℕ) (xs : List Item) (rr : Result Preface Refusal) (r : Preface) (er : rr ≡ Ok r) (number : ℕ) (rest : List ℕ) (b : Builder K)
    (read : ReadAs (listed A (reading A parsed) n w l fresh [] xs) rr number rest (Holds A n w b)) (s : Listed K) (means : (n m : ℕ) (ps : List (List K)) → Holds A n m b ps → Means A (listed_model A s) ps) (count : (n m : ℕ) (ps : List (List K)) → Holds A n m b ps → s.taken ≡ length ps) where
  pub body-from : (jr : Result Finding Fault) → jr ≡ limited (listed_model A s) A r.form.limit (λ u. finding u (reading A parsed) r.trace.now)
      → (line : ℕ) → line ≡ number → (found : Result Finding Refusal) → found ≡ at_line jr line
      → (t : Result (Unit {0}) Refusal) → t ≡ ended (number + 1) (items rest) → (p : ℕ) → p ≡ s.taken
      → and_then found (λ f. and_then t (λ _. Ok (record { heading = record { kind = kind; patterns = p; limit = r.form.limit }; finding = f }))) ≡ body kind A parsed n w l xs
  body-from jr ej line el found ef t et p ep =
      let d = read_ok (listed A (reading A parsed) n w l fresh [] xs) r number rest (Holds A n w b) (subst (λ o. ReadAs (listed A (reading A parsed) n w l fresh [] xs) o number rest (Holds A n w b)) er read) in
      let x = d.0 in
      let holds = d.1.1.4 in
      body_is A parsed kind n w l xs x d.1.0 (listed_model A s) (listed_is A s x.patterns (means n w x.patterns holds)) r d.1.1.0 d.1.1.1 line (el ∙ d.1.1.2)
      found (ef ∙ ap (λ o. at_line o line) ej) t (et ∙ ap (λ k. ended (k + 1) (items rest)) d.1.1.2 ∙ ap (ended (x.line + 1)) d.1.1.3) p (ep ∙ count n w x.patterns holds)
