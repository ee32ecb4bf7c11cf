-- One letter or gap more of a trace whose calls are written. Assumes nothing.
use Rattle.std.proofs.Common.{◌≡◌, ℕ, suc, ◌+◌, ◌<◌, ◌≤◌, Bool, true, ◌&&◌, List, [], ◌∷◌, ◌++◌, length, get_or, take, Some, None, Option, sym, refl, ap, ◌∙◌, subst, append-nil, add-one, arith}
use Rattle.std.proofs.lemmas.List.{take_more, length_push, length-take-le}
use Rattle.models.specs.Alphabet.{Alphabet}
use Rattle.models.specs.Automaton.{Model}
use Rattle.pages.specs.Pages.{Holds, Wrote}
use Rattle.pages.specs.declared.Page.{Page}
use Rattle.pages.proofs.Writes.{wrote_then}
use Rattle.sheetlaw.specs.Calls.{Turn}
use Rattle.sheetlaw.specs.Step.{needs, answers, cleared, pauses}
use Rattle.sheetlaw.specs.Runs.{turn, turns}
use Rattle.sheetlaw.specs.NextRow.{row_of}
use Rattle.sheetlaw.specs.declared.Event.{Event}
use Rattle.sheetlaw.specs.declared.Event.TheVariants.{Letter, Gap}
use Rattle.sheets.specs.Views.{contents, Stands}
use Rattle.sheets.specs.declared.sheet.Sheet.{Sheet}
use Rattle.drives.specs.Traces.{brought, left_over}
use Rattle.drives.proofs.Givings.{left_over-more, next-letter, next-gap}
use Rattle.texts.specs.Texts.{before, spelled}
use Rattle.stepping.specs.Replies.{turn_line, step_lines, is_taken, all_taken}
use Rattle.stepping.specs.Steps.{event, events}
use Rattle.stepping.specs.OnSheets.{call_on, calls_after}

-- one byte more spells one letter more, or none
spelled-more : {K : Type 0} (reads : ℕ → Option K) (bs : List ℕ) (b : ℕ) → spelled reads (bs ++ b ∷ []) ≡ spelled reads bs ++ before (reads b) []
spelled-more reads [] b = refl
spelled-more {K} reads (c ∷ bs) b =
    elim (reads c) as (λ o. before o (spelled reads (bs ++ b ∷ [])) ≡ before o (spelled reads bs) ++ before (reads b) []) [
      | Some y ↦ ap (λ (l : List K). y ∷ l) (spelled-more reads bs b)
      | None ↦ spelled-more reads bs b
    ]

-- the letters and gaps of a trace, with the byte b at the place i too
module _ {K : Type 0} (reads : ℕ → Option K) (bs : List ℕ) (i : ℕ) (within : i < length bs) where
  events-more : events reads (take (i + 1) bs) ≡ events reads (take i bs) ++ before (event reads (get_or bs i 0)) []
  events-more = ap (events reads) (take_more bs i 0 within) ∙ spelled-more (event reads) (take i bs) (get_or bs i 0)

  pub events-with : (e : Event K) → event reads (get_or bs i 0) ≡ Some e → events reads (take (i + 1) bs) ≡ events reads (take i bs) ++ e ∷ []
  events-with e is = events-more ∙ ap (λ o. events reads (take i bs) ++ before o []) is

  pub events-without : event reads (get_or bs i 0) ≡ None → events reads (take (i + 1) bs) ≡ events reads (take i bs)
  events-without is = events-more ∙ ap (λ o. events reads (take i bs) ++ before o []) is ∙ append-nil (events reads (take i bs))

pub length-brought : {K : Type 0} (n : ℕ) (work : List ℕ) (es : List (Event K)) → length (brought n work es) ≡ length es
length-brought n work [] = refl
length-brought n work (Letter x ∷ es) = ap suc (length-brought n (cleared n work) es)
length-brought n work (Gap ∷ es) = ap suc (length-brought n work es)

pub length-turns : {K : Type 0} (m : Model K) (k : ℕ) (row : List K → List K → Option (List K)) (t : List K) (h : List (Turn K)) (es : List (Event K × List ℕ)) → length (turns m k row t h es) ≡ length h + length es
length-turns m k row t h [] = omega arith
length-turns m k row t h (e ∷ es) = omega (arith, length-turns m k row t (turn m k row t h e ∷ h) es)

left_over_one : {K : Type 0} (n : ℕ) (work : List ℕ) (es : List (Event K)) (e : Event K) → left_over n work (es ++ e ∷ []) ≡ left_over n (left_over n work es) (e ∷ [])
left_over_one n work es (Letter x) = left_over-more n work es (Letter x)
left_over_one n work es Gap = left_over-more n work es Gap

wrote_none : (p : Page) → Wrote p p []
wrote_none p = record { text = λ xs ys h. subst (λ l. Holds p l ys) (sym (append-nil xs)) h; page = refl }

-- the lines and the answer of the latest n calls, with one call more
module _ {K : Type 0} (A : Alphabet K) (printed : ℕ → ℕ) (n : ℕ) (h : List (Turn K)) (c : Turn K) where
  lines_more : n ≤ length h → step_lines A printed (take n h) ++ turn_line A printed n c ≡ step_lines A printed (take (n + 1) (c ∷ h))
  lines_more few =
      ap (λ i. step_lines A printed (take n h) ++ turn_line A printed i c) (sym (length-take-le n h few))
      ∙ ap (λ i. step_lines A printed (take i (c ∷ h))) (sym (add-one n))

  taken_more : all_taken (take n h) && is_taken c ≡ all_taken (take (n + 1) (c ∷ h))
  taken_more = ap (λ i. all_taken (take i (c ∷ h))) (sym (add-one n))

module _ {V K : Type 0} {gv : _} {gk : _} (A : Alphabet K) (printed : ℕ → ℕ) (M : V → Model K) (s0 : Sheet V K gv gk) (text : List K) (first : List ℕ) (p0 : Page) where
  -- what holds of the calls of es, for every list of calls before them after which the law stood
  pub record Standing (es : List (Event K)) (s : Sheet V K gv gk) (t : List K) (p : Page) (all : Bool) (t0 : List K) (h : List (Turn K)) : Type 0 where
    pub law : Stands A M t0 (calls_after A M s0 first es t0 h) s t
    pub lines : Wrote p0 p (step_lines A printed (take (length es) (calls_after A M s0 first es t0 h)))
    pub taken : all ≡ all_taken (take (length es) (calls_after A M s0 first es t0 h))

  pub record Past (es : List (Event K)) (s : Sheet V K gv gk) (t : List K) (work : List ℕ) (p : Page) (place : ℕ) (all : Bool) : Type 0 where
    pub window : s.k ≡ s0.k
    pub automaton : s.automaton ≡ s0.automaton
    pub left : work ≡ left_over (needs (M s0.automaton)) first es
    pub count : place ≡ length es
    pub stands : (t0 : List K) (h : List (Turn K)) → Stands A M t0 h s0 text → Standing es s t p all t0 h

  module _ (es : List (Event K)) (s : Sheet V K gv gk) (t : List K) (work : List ℕ) (p : Page) (place : ℕ) (all : Bool) (past : Past es s t work p place all) (e : Event K) where
    -- the call is the next one of the definitions
    next-call : (t0 : List K) (h : List (Turn K)) → Stands A M t0 (calls_after A M s0 first es t0 h) s t → call_on A M s t work e ∷ calls_after A M s0 first es t0 h ≡ calls_after A M s0 first (es ++ e ∷ []) t0 h
    next-call t0 h held =
        elim e as (λ e. call_on A M s t work e ∷ calls_after A M s0 first es t0 h ≡ calls_after A M s0 first (es ++ e ∷ []) t0 h) [
          | Letter x ↦ next-letter A M s.automaton s0.automaton s.k s0.k past.automaton past.window t0 h first work es past.left (contents s) t held x (answers (M s.automaton) s.k (row_of A (M s.automaton)) (length work) (length t) (contents s) x) (cleared (needs (M s.automaton)) work) refl refl
          | Gap ↦ next-gap A M s.automaton s0.automaton s.k s0.k past.automaton past.window t0 h first work es past.left (contents s) t held (pauses (contents s)) refl
        ]

    -- one more, from what the step ensures
    pub past_more : (s' : Sheet V K gv gk) (t' : List K) (work' : List ℕ) (p' : Page) (r all' : Bool) (place' : ℕ)
        → Wrote p p' (turn_line A printed place (call_on A M s t work e)) → r ≡ is_taken (call_on A M s t work e) → work' ≡ left_over (needs (M s.automaton)) work (e ∷ [])
        → s'.k ≡ s.k → s'.automaton ≡ s.automaton
        → ((t0 : List K) (h : List (Turn K)) → Stands A M t0 h s t → Stands A M t0 (call_on A M s t work e ∷ h) s' t')
        → all' ≡ all && r → place' ≡ place + 1 → Past (es ++ e ∷ []) s' t' work' p' place' all'
    past_more s' t' work' p' r all' place' ep er ew ek ev es' ea eplace =
        let m = M s0.automaton in
        let longer : place' ≡ length (es ++ e ∷ []) = omega (arith, length_push es e, past.count) in
        record {
          window = ek ∙ past.window;
          automaton = ev ∙ past.automaton;
          left = ew ∙ ap (λ v. left_over (needs (M v)) work (e ∷ [])) past.automaton ∙ ap (λ w. left_over (needs m) w (e ∷ [])) past.left ∙ sym (left_over_one (needs m) first es e);
          count = longer;
          stands = λ t0 h before.
              let now = past.stands t0 h before in
              let c = call_on A M s t work e in
              let old = calls_after A M s0 first es t0 h in
              let n = length es in
              let grown = next-call t0 h now.law in
              let few : n ≤ length old = omega (arith, length-turns m s0.k (row_of A m) t0 h (brought (needs m) first es), length-brought (needs m) first es) in
              let at : take (n + 1) (c ∷ old) ≡ take (length (es ++ e ∷ [])) (calls_after A M s0 first (es ++ e ∷ []) t0 h) =
              ap (λ i. take i (c ∷ old)) (sym (length_push es e)) ∙ ap (take (length (es ++ e ∷ []))) grown in
              record {
                law = subst (λ q. Stands A M t0 q s' t') grown (es' t0 old now.law);
                lines = wrote_then _ (ap (λ i. step_lines A printed (take n old) ++ turn_line A printed i c) past.count ∙ lines_more A printed n old c few ∙ ap (step_lines A printed) at) now.lines ep;
                taken = ea ∙ ap (λ b. b && r) now.taken ∙ ap (λ b. all_taken (take n old) && b) er ∙ taken_more A printed n old c ∙ ap all_taken at;
              };
        }

  pub past-none : Past [] s0 text first p0 0 true
  past-none = record {
    window = refl;
    automaton = refl;
    left = refl;
    count = refl;
    stands = λ t0 h before. record {
      law = before;
      lines = wrote_none p0;
      taken = refl;
    };
  }

  -- the same, by other terms
  pub past-at : {es es' : List (Event K)} {s s' : Sheet V K gv gk} {t t' : List K} {work work' : List ℕ} {p p' : Page} {place place' : ℕ} {all all' : Bool}
      → es' ≡ es → s' ≡ s → t' ≡ t → work' ≡ work → p' ≡ p → place' ≡ place → all' ≡ all → Past es s t work p place all → Past es' s' t' work' p' place' all'
  past-at {es} {es'} {s} {s'} {t} {t'} {work} {work'} {p} {p'} {place} {place'} {all} {all'} ee e0 e1 e2 e3 e4 e5 past =
      subst (λ l. Past l s' t' work' p' place' all') (sym ee) (subst (λ v. Past es v t' work' p' place' all') (sym e0) (subst (λ v. Past es s v work' p' place' all') (sym e1) (subst (λ v. Past es s t v p' place' all') (sym e2)
      (subst (λ v. Past es s t work v place' all') (sym e3) (subst (λ v. Past es s t work p v all') (sym e4) (subst (Past es s t work p place) (sym e5) past))))))
