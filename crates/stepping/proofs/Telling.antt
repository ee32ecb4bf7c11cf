-- What is told of a trace that is followed, and of a file that is refused. Assumes nothing.
use Rattle.std.proofs.Common.{◌≡◌, ℕ, ◌≤◌, Bool, false, List, [], length, take, Ok, Err, Option, Result, sym, refl, ap, ◌∙◌, subst, arith}
use Rattle.std.proofs.lemmas.List.{take_all}
use Rattle.faults.specs.declared.Fault.{Fault}
use Rattle.models.specs.Alphabet.{Alphabet}
use Rattle.models.specs.Automaton.{Model}
use Rattle.files.specs.Refusals.{refusal_line}
use Rattle.files.specs.declared.refusals.Refusal.{Refusal}
use Rattle.pages.specs.Pages.{Wrote}
use Rattle.pages.specs.declared.Page.{Page}
use Rattle.pages.proofs.Writes.{wrote_then, wrote_is}
use Rattle.stations.specs.Stations.{Item}
use Rattle.stations.specs.declared.Kind.{Kind}
use Rattle.sheetlaw.specs.Calls.{appended, tally}
use Rattle.sheetlaw.specs.Step.{needs}
use Rattle.sheetlaw.specs.Law.{Followed}
use Rattle.sheetlaw.specs.NextRow.{row_of}
use Rattle.sheetlaw.specs.declared.Counts.{Counts}
use Rattle.sheetlaw.specs.declared.Event.{Event}
use Rattle.sheets.specs.Views.{contents, Stands}
use Rattle.sheets.specs.declared.sheet.Sheet.{Sheet}
use Rattle.drives.specs.Traces.{brought, left_over}
use Rattle.stepping.specs.Replies.{step_lines, all_taken}
use Rattle.stepping.specs.Steps.{Steps, calls_of, followed, Law}
use Rattle.stepping.specs.OnSheets.{calls_after}
use Rattle.headings.specs.Headings.{heading_lines}
use Rattle.stepping.specs.Outcomes.{Report, Told, concluded, sheet_lines, text_lines, end_lines}
use Rattle.stepping.proofs.Traces.{length-brought, length-turns}

-- a sheet s that was opened on the automaton v with windows of k letters, and s' after the letters and gaps es
module _ {V K : Type 0} {gv : _} {gk : _} (A : Alphabet K) (printed : ℕ → ℕ) (M : V → Model K) (v : V) (k : ℕ) (t : List K) (w : List ℕ) (es : List (Event K)) (s : Sheet V K gv gk) (ev : s.automaton ≡ v) (ek : s.k ≡ k) where
  same-calls : calls_after A M s w es t [] ≡ calls_of A t w (M v) k es
  same-calls = ap (λ u. calls_of A t w (M u) s.k es) ev ∙ ap (λ i. calls_of A t w (M v) i es) ek

  -- all of them are the latest
  all-calls : take (length es) (calls_after A M s w es t []) ≡ calls_of A t w (M v) k es
  all-calls =
      let c = calls_of A t w (M v) k es in
      let few : length c ≤ length es = omega (arith, length-turns (M v) k (row_of A (M v)) t [] (brought (needs (M v)) w es), length-brought (needs (M v)) w es) in
      ap (take (length es)) same-calls ∙ take_all (length es) c few

  module _ (s' : Sheet V K gv gk) (t' : List K) (kk : s'.k ≡ s.k) (kv : s'.automaton ≡ s.automaton) (stands : Stands A M t (calls_after A M s w es t []) s' t') where
    held : Followed (M v) A.number k (row_of A (M v)) t (calls_of A t w (M v) k es) (contents s') t'
    held =
        subst (λ h. Followed (M v) A.number k (row_of A (M v)) t h (contents s') t') same-calls
        (subst (λ i. Followed (M v) A.number i (row_of A (M v)) t (calls_after A M s w es t []) (contents s') t') (kk ∙ ek)
        (subst (λ u. Followed (M u) A.number s'.k (row_of A (M u)) t (calls_after A M s w es t []) (contents s') t') (kv ∙ ev) stands))

    lawful : (n : ℕ) → Law A (followed A t w (M v) k n es)
    lawful n =
        let c = calls_of A t w (M v) k es in
        subst (λ u. Followed (M v) A.number k (row_of A (M v)) t c (followed A t w (M v) k n es).sheet u) held.table
        (subst (λ u. Followed (M v) A.number k (row_of A (M v)) t c u t') held.sheet held)

    ended_as : (n : ℕ) (c : Counts) → c ≡ tally (M s'.automaton) s'.k (calls_after A M s w es t []) → text_lines A printed (take c.text t') c ≡ end_lines A printed (followed A t w (M v) k n es)
    ended_as n c ec =
        let h = calls_of A t w (M v) k es in
        let all : c ≡ tally (M v) k h = ec ∙ ap (λ u. tally (M u) s'.k (calls_after A M s w es t [])) (kv ∙ ev) ∙ ap (λ i. tally (M v) i (calls_after A M s w es t [])) (kk ∙ ek) ∙ ap (tally (M v) k) same-calls in
        ap (λ c. text_lines A printed (take c.text t') c) all ∙ ap (λ u. text_lines A printed (take (appended h) u) (tally (M v) k h)) held.table

    -- from what the calls on the way ensure
    pub told-followed : (kind : Kind) (n : ℕ) (r : Option ℕ) (size states memory : ℕ) (p p1 p2 p3 p4 : Page) (w' : List ℕ) (answer : Bool) (c : Counts)
        → Wrote p p1 (heading_lines kind n r) → states ≡ (M v).count → memory ≡ (M v).memory → Wrote p1 p2 (sheet_lines states memory k size)
        → Wrote p2 p3 (step_lines A printed (take (length es) (calls_after A M s w es t []))) → answer ≡ all_taken (take (length es) (calls_after A M s w es t []))
        → w' ≡ left_over (needs (M s.automaton)) w es
        → c ≡ tally (M s'.automaton) s'.k (calls_after A M s w es t []) → Wrote p3 p4 (text_lines A printed (take c.text t') c)
        → (o : Result (Report K) Refusal) → o ≡ Ok (record { kind = kind; patterns = n; limit = r; steps = followed A t w (M v) k size es })
        → Told A printed p p4 t t' w w' answer o
    told-followed kind n r size states memory p p1 p2 p3 p4 w' answer c e1 est emem e2 e3 ea ew ec e4 o eo =
        let settings = wrote_is (sheet_lines (M v).count (M v).memory k size) (ap (λ i. sheet_lines i memory k size) est ∙ ap (λ i. sheet_lines (M v).count i k size) emem) e2 in
        let lines = wrote_is (step_lines A printed (calls_of A t w (M v) k es)) (ap (step_lines A printed) all-calls) e3 in
        let last = wrote_is _ (ended_as size c ec) e4 in
        subst (Told A printed p p4 t t' w w' answer) (sym eo) (record {
          page = wrote_then _ refl e1 (wrote_then _ refl settings (wrote_then _ refl lines last));
          completes = ea ∙ ap all_taken all-calls;
          table = held.table;
          work = ew ∙ ap (λ u. left_over (needs (M u)) w es) ev;
          law = lawful size;
        })

-- a refusal leaves both tables
module _ {K : Type 0} (A : Alphabet K) (printed : ℕ → ℕ) (p p' : Page) (t : List K) (w : List ℕ) (answer : Bool) (no : answer ≡ false) where
  pub told-refused : (e : Refusal) → Wrote p p' (refusal_line e) → (o : Result (Report K) Refusal) → o ≡ Err e → Told A printed p p' t t w w answer o
  told-refused e wrote o eo = subst (Told A printed p p' t t w w answer) (sym eo) (record { page = wrote; completes = no; table = refl; work = refl; law = tt })

  -- a trace line that is refused
  pub told_unsettled : (kind : Kind) (n : ℕ) (r : Option ℕ) (line : ℕ) (rest : List Item) (x : Result (Steps K) Fault) (f : Fault) → Err f ≡ x → (l : ℕ) → l ≡ line
      → Wrote p p' (refusal_line (record { fault = f; line = l })) → Told A printed p p' t t w w answer (concluded kind n r line rest x)
  told_unsettled kind n r line rest x f ex l el wrote =
      told-refused (record { fault = f; line = l }) wrote (concluded kind n r line rest x) (sym (ap (concluded kind n r line rest) ex) ∙ ap (λ i. Err (record { fault = f; line = i })) (sym el))

-- what is told of a trace line, by another term for what its trace comes to
pub told_as : {K : Type 0} {A : Alphabet K} {printed : ℕ → ℕ} {p p' : Page} {t t' : List K} {w w' : List ℕ} {answer : Bool} (kind : Kind) (n : ℕ) (r : Option ℕ) (line : ℕ) (rest : List Item) {x y : Result (Steps K) Fault}
    → x ≡ y → Told A printed p p' t t' w w' answer (concluded kind n r line rest x) → Told A printed p p' t t' w w' answer (concluded kind n r line rest y)
told_as {K} {A} {printed} {p} {p'} {t} {t'} {w} {w'} {answer} kind n r line rest e told = subst (λ x. Told A printed p p' t t' w w' answer (concluded kind n r line rest x)) e told
