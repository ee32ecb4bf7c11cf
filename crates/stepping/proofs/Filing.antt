-- What a whole file comes to, from what the calls on the way ensure. Assumes nothing.
use Rattle.std.proofs.Common.{◌≡◌, ℕ, ◌≤◌, Bool, cond, List, [], length, Ok, Err, Option, Result, sym, refl, ap, ◌∙◌, subst}
use Rattle.std.proofs.lemmas.Bool.{le-ltb}
use Rattle.models.specs.Alphabet.{Alphabet}
use Rattle.models.specs.Automaton.{Model}
use Rattle.letters.specs.Two.{two_alphabet, two_printed}
use Rattle.letters.specs.Trends.{trend_alphabet, trend_printed}
use Rattle.letters.specs.Seepages.{seepage_alphabet, seepage_printed}
use Rattle.letters.specs.declared.two.Two.{Two as TwoLetter}
use Rattle.letters.specs.declared.trend.Trend.{Trend as TrendLetter}
use Rattle.letters.specs.declared.seepage.Seepage.{Seepage as SeepageLetter}
use Rattle.files.specs.Lines.{items}
use Rattle.files.specs.declared.refusals.Refusal.{Refusal}
use Rattle.listlaw.specs.Table.{Means}
use Rattle.lists.specs.History.{Holds}
use Rattle.lists.specs.Meaning.{listed as listed_model}
use Rattle.lists.specs.declared.builder.Builder.{Builder}
use Rattle.lists.specs.declared.listed.Listed.{Listed}
use Rattle.pages.specs.Pages.{Wrote}
use Rattle.pages.specs.declared.Page.{Page}
use Rattle.texts.specs.Texts.{reading}
use Rattle.stations.specs.Stations.{Item, early, headed}
use Rattle.stations.specs.declared.Kind.{Kind}
use Rattle.listings.specs.Listings.{Listing, list_model, limited, listed, fresh, and_then}
use Rattle.listings.specs.Reads.{ReadAs}
use Rattle.listings.specs.declared.Preface.{Preface}
use Rattle.listings.proofs.Models.{listed_is}
use Rattle.listings.proofs.Prefaces.{read_ok}
use Rattle.rewritelaw.specs.Outcomes.{window_of}
use Rattle.rewrites.proofs.Bodies.{read_err}
use Rattle.stepping.specs.Steps.{steps}
use Rattle.stepping.specs.Outcomes.{Report, Told, Stepped, of_two, of_trend, of_seepage, as_kind, concluded, body, body_of, outcome, file_printed, file_complete, two_left, trend_left, seepage_left, file_work, FileLaw}

module _ {K : Type 0} (A : Alphabet K) (parsed : ℕ → Option ℕ) (kind : Kind) (n w : ℕ) (t : List K) (work : List ℕ) (l : ℕ) (xs : List Item) where
  -- what a trace line comes to, once the file is read up to it
  abbrev line_of : Listing K → Result (Report K) Refusal
  line_of d =
      concluded kind (length d.patterns) d.form.limit d.line d.rest
      (limited (list_model A d.patterns) A d.form.limit (λ m. steps A t work m (window_of d.form) (reading A parsed) d.trace))

  module _ (rr : Result Preface Refusal) (number : ℕ) (rest : List ℕ) (b : Builder K) (read : ReadAs (listed A (reading A parsed) n w l fresh [] xs) rr number rest (Holds A n w b)) where
    -- a file that is read up to its trace
    pub body-read : (r : Preface) → rr ≡ Ok r → (s : Listed K) → ((n m : ℕ) (ps : List (List K)) → Holds A n m b ps → Means A (listed_model A s) ps) → ((n m : ℕ) (ps : List (List K)) → Holds A n m b ps → s.taken ≡ length ps)
        → (p k : ℕ) → p ≡ s.taken → k ≡ window_of r.form
        → concluded kind p r.form.limit number (items rest) (limited (listed_model A s) A r.form.limit (λ m. steps A t work m k (reading A parsed) r.trace.now)) ≡ body kind A parsed n w t work l xs
    body-read r er s means count p k ep ek =
        let all = listed A (reading A parsed) n w l fresh [] xs in
        let d = read_ok all r number rest (Holds A n w b) (subst (λ o. ReadAs all o number rest (Holds A n w b)) er read) in
        let x = d.0 in
        let e = d.1.1 in
        let reads = reading A parsed in
        let go = λ (p : ℕ) (f : Option ℕ) (number : ℕ) (rest : List Item) (m : Model K) (k : ℕ) (bs : List ℕ). concluded kind p f number rest (limited m A f (λ m. steps A t work m k reads bs)) in
        ap (λ p. go p r.form.limit number (items rest) (listed_model A s) k r.trace.now) (ep ∙ count n w x.patterns e.4)
        ∙ ap (λ m. go (length x.patterns) r.form.limit number (items rest) m k r.trace.now) (listed_is A s x.patterns (means n w x.patterns e.4))
        ∙ ap (λ k. go (length x.patterns) r.form.limit number (items rest) (list_model A x.patterns) k r.trace.now) ek
        ∙ ap (λ f. go (length x.patterns) f.limit number (items rest) (list_model A x.patterns) (window_of f) r.trace.now) e.0
        ∙ ap (λ bs. go (length x.patterns) x.form.limit number (items rest) (list_model A x.patterns) (window_of x.form) bs) e.1
        ∙ ap (λ i. go (length x.patterns) x.form.limit i (items rest) (list_model A x.patterns) (window_of x.form) x.trace) e.2
        ∙ ap (λ ys. go (length x.patterns) x.form.limit x.line ys (list_model A x.patterns) (window_of x.form) x.trace) e.3
        ∙ sym (ap (λ d. and_then d line_of) d.1.0)

    -- a file that is refused before its trace
    pub body_unread : (f : Refusal) → rr ≡ Err f → body kind A parsed n w t work l xs ≡ Err f
    body_unread f er =
        let all = listed A (reading A parsed) n w l fresh [] xs in
        ap (λ d. and_then d line_of) (read_err all f number rest (Holds A n w b) (subst (λ o. ReadAs all o number rest (Holds A n w b)) er read))

-- a file whose kind is named
module _ (n w : ℕ) (work : List ℕ) (a : List TwoLetter) (p : List TrendLetter) (q : List SeepageLetter) (bs : List ℕ) where
  abbrev after_kind : Kind × (ℕ × List Item) → Result Stepped Refusal
  after_kind h = body_of n w work a p q h.0 h.1.0 h.1.1

  pub outcome_is : (k : Kind) (l : ℕ) (xs : List Item) → length bs ≤ 60000 → headed 1 (items bs) ≡ Ok (k, (l, xs)) → outcome n w work a p q bs ≡ body_of n w work a p q k l xs
  outcome_is k l xs few head =
      ap (λ b. cond b (Err early) (and_then (headed 1 (items bs)) after_kind)) (le-ltb 60000 (length bs) few)
      ∙ ap (λ r. and_then r after_kind) head

-- what is told of a file, whatever its kind
pub record Filed (p p' : Page) (a a' : List TwoLetter) (t t' : List TrendLetter) (q q' : List SeepageLetter) (w w' : List ℕ) (answer : Bool) (o : Result Stepped Refusal) : Type 0 where
  pub page : Wrote p p' (file_printed o)
  pub complete : answer ≡ file_complete o
  pub two : a' ≡ two_left a o
  pub trend : t' ≡ trend_left t o
  pub seepage : q' ≡ seepage_left q o
  pub work : w' ≡ file_work w o
  pub law : FileLaw o

module _ {p p' : Page} {w w' : List ℕ} {answer : Bool} (a : List TwoLetter) (t : List TrendLetter) (q : List SeepageLetter) where
  pub filed_two : {a' : List TwoLetter} (o : Result (Report TwoLetter) Refusal) → Told two_alphabet two_printed p p' a a' w w' answer o → Filed p p' a a' t t q q w w' answer (as_kind of_two o)
  filed_two (Ok r) told = record { page = told.page; complete = told.completes; two = told.table; trend = refl; seepage = refl; work = told.work; law = told.law }
  filed_two (Err e) told = record { page = told.page; complete = told.completes; two = told.table; trend = refl; seepage = refl; work = told.work; law = tt }

  pub filed_trend : {t' : List TrendLetter} (o : Result (Report TrendLetter) Refusal) → Told trend_alphabet trend_printed p p' t t' w w' answer o → Filed p p' a a t t' q q w w' answer (as_kind of_trend o)
  filed_trend (Ok r) told = record { page = told.page; complete = told.completes; two = refl; trend = told.table; seepage = refl; work = told.work; law = told.law }
  filed_trend (Err e) told = record { page = told.page; complete = told.completes; two = refl; trend = told.table; seepage = refl; work = told.work; law = tt }

  pub filed_seepage : {q' : List SeepageLetter} (o : Result (Report SeepageLetter) Refusal) → Told seepage_alphabet seepage_printed p p' q q' w w' answer o → Filed p p' a a t t q q' w w' answer (as_kind of_seepage o)
  filed_seepage (Ok r) told = record { page = told.page; complete = told.completes; two = refl; trend = refl; seepage = told.table; work = told.work; law = told.law }
  filed_seepage (Err e) told = record { page = told.page; complete = told.completes; two = refl; trend = refl; seepage = told.table; work = told.work; law = tt }

pub filed_as : {p p' : Page} {a a' : List TwoLetter} {t t' : List TrendLetter} {q q' : List SeepageLetter} {w w' : List ℕ} {answer : Bool} {o x : Result Stepped Refusal} → x ≡ o → Filed p p' a a' t t' q q' w w' answer o → Filed p p' a a' t t' q q' w w' answer x
filed_as {p} {p'} {a} {a'} {t} {t'} {q} {q'} {w} {w'} {answer} e filed = subst (Filed p p' a a' t t' q q' w w' answer) (sym e) filed
