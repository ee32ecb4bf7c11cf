-- What the body of a file comes to, once it is read up to its trace. Assumes nothing.
use Rattle.std.proofs.Common.{◌≡◌, ℕ, ◌+◌, List, [], Ok, Err, Option, Result, sym, ap, ◌∙◌, subst}
use Rattle.models.specs.Alphabet.{Alphabet}
use Rattle.models.specs.Automaton.{Model}
use Rattle.faults.specs.declared.Fault.{Fault}
use Rattle.files.specs.Lines.{items}
use Rattle.files.specs.Refusals.{at_line}
use Rattle.files.specs.declared.refusals.Refusal.{Refusal}
use Rattle.listlaw.specs.Table.{Means}
use Rattle.lists.specs.History.{Holds}
use Rattle.lists.specs.Meaning.{listed as listed_model}
use Rattle.lists.specs.declared.builder.Builder.{Builder}
use Rattle.lists.specs.declared.listed.Listed.{Listed}
use Rattle.texts.specs.Texts.{reading}
use Rattle.stations.specs.Stations.{Item, ended}
use Rattle.stations.specs.declared.Form.{Form}
use Rattle.listings.specs.Listings.{Listing, list_model, limited, listed, fresh, and_then}
use Rattle.listings.specs.Reads.{ReadAs}
use Rattle.listings.specs.declared.Preface.{Preface}
use Rattle.listings.proofs.Models.{listed_is}
use Rattle.listings.proofs.Prefaces.{read_ok}
use Rattle.sheetlaw.specs.declared.Counts.{Counts}
use Rattle.rewritelaw.specs.Traces.{Left, left_as, unless_refused, rewritten}
use Rattle.rewritelaw.specs.Outcomes.{window_of, judged, ends, body}

module _ {K : Type 0} (A : Alphabet K) (parsed : ℕ → Option ℕ) (n w : ℕ) (t : List K) (v : List ℕ) where
  -- the trace under the automaton m and the settings f
  abbrev under : Model K → Form → ℕ → List ℕ → Left K Fault
  under m f k bs = unless_refused (limited m A f.limit Ok) t v (λ u. rewritten A parsed u k bs t v)

  judged_is : (x : Listing K) (m : Model K) (f : Form) (k : ℕ) (bs : List ℕ) → m ≡ list_model A x.patterns → f ≡ x.form → k ≡ window_of f → bs ≡ x.trace → under m f k bs ≡ judged A parsed n w t v x
  judged_is x m f k bs em ef ek eb =
      ap (λ k. under m f k bs) ek
      ∙ ap (λ m. under m f (window_of f) bs) em
      ∙ ap (λ f. under (list_model A x.patterns) f (window_of f) bs) ef
      ∙ ap (under (list_model A x.patterns) x.form (window_of x.form)) eb

  -- what the trace came to, and what the lines after it come to
  body_is : (l : ℕ) (xs : List Item) (x : Listing K) → listed A (reading A parsed) n w l fresh [] xs ≡ Ok x
      → (r : Result Counts Fault) (t' : List K) (v' : List ℕ) → left_as r t' v' ≡ judged A parsed n w t v x
      → (found : Result Counts Refusal) → found ≡ at_line r x.line → (z : Result (Unit {0}) Refusal) → z ≡ ended (x.line + 1) x.rest
      → left_as (and_then found (λ c. and_then z (λ _. Ok c))) t' v' ≡ body A parsed n w t v l xs
  body_is l xs x e r t' v' ej found ef z ez =
      ap (λ o. left_as (and_then o (λ c. and_then z (λ _. Ok c))) t' v') ef
      ∙ ap (λ o. left_as (and_then (at_line r x.line) (λ c. and_then o (λ _. Ok c))) t' v') ez
      ∙ ap (ends A parsed n w t v x) ej
      ∙ sym (ap (λ d. unless_refused d t v (λ d. ends A parsed n w t v d (judged A parsed n w t v d))) e)

-- from what the calls on the way ensure: reading up to the trace, finishing the list, rewriting, and reading the rest
module _ {K : Type 0} (A : Alphabet K) (parsed : ℕ → Option ℕ) (n w : ℕ) (t : List K) (v : List ℕ) (l : ℕ) (xs : List Item) (rr : Result Preface Refusal) (r : Preface) (er : rr ≡ Ok r) (number : ℕ) (rest : List ℕ) (b : Builder K)
    (read : ReadAs (listed A (reading A parsed) n w l fresh [] xs) rr number rest (Holds A n w b)) (s : Listed K) (means : (n m : ℕ) (ps : List (List K)) → Holds A n m b ps → Means A (listed_model A s) ps) where
  pub body-from : (k : ℕ) → k ≡ window_of r.form → (jr : Result Counts Fault) (t' : List K) (v' : List ℕ)
      → left_as jr t' v' ≡ unless_refused (limited (listed_model A s) A r.form.limit Ok) t v (λ u. rewritten A parsed u k r.trace.now t v)
      → (line : ℕ) → line ≡ number → (found : Result Counts Refusal) → found ≡ at_line jr line
      → (z : Result (Unit {0}) Refusal) → z ≡ ended (number + 1) (items rest)
      → left_as (and_then found (λ c. and_then z (λ _. Ok c))) t' v' ≡ body A parsed n w t v l xs
  body-from k ek jr t' v' ej line el found ef z ez =
      let d = read_ok (listed A (reading A parsed) n w l fresh [] xs) r number rest (Holds A n w b) (subst (λ o. ReadAs (listed A (reading A parsed) n w l fresh [] xs) o number rest (Holds A n w b)) er read) in
      let x = d.0 in
      let holds = d.1.1.4 in
      body_is A parsed n w t v l xs x d.1.0 jr t' v'
      (ej ∙ judged_is A parsed n w t v x (listed_model A s) r.form k r.trace.now (listed_is A s x.patterns (means n w x.patterns holds)) d.1.1.0 ek d.1.1.1)
      found (ef ∙ ap (at_line jr) (el ∙ d.1.1.2))
      z (ez ∙ ap (λ k. ended (k + 1) (items rest)) d.1.1.2 ∙ ap (ended (x.line + 1)) d.1.1.3)

pub read_err : {K : Type 0} (d : Result (Listing K) Refusal) (f : Refusal) (k : ℕ) (bs : List ℕ) (H : List (List K) → Type 0) → ReadAs d (Err f) k bs H → d ≡ Err f
read_err (Ok x) f k bs H h = absurd h
read_err (Err e) f k bs H h = ap Err h

-- a file that is refused before its trace
module _ {K : Type 0} (A : Alphabet K) (parsed : ℕ → Option ℕ) (n w : ℕ) (t : List K) (v : List ℕ) (l : ℕ) (xs : List Item) (rr : Result Preface Refusal) (f : Refusal) (er : rr ≡ Err f) (number : ℕ) (rest : List ℕ) (b : Builder K) where
  pub body_unread : ReadAs (listed A (reading A parsed) n w l fresh [] xs) rr number rest (Holds A n w b) → left_as (Err f) t v ≡ body A parsed n w t v l xs
  body_unread read =
      let e = read_err (listed A (reading A parsed) n w l fresh [] xs) f number rest (Holds A n w b) (subst (λ o. ReadAs (listed A (reading A parsed) n w l fresh [] xs) o number rest (Holds A n w b)) er read) in
      sym (ap (λ d. unless_refused d t v (λ d. ends A parsed n w t v d (judged A parsed n w t v d))) e)
