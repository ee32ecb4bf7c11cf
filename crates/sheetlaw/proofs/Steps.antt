-- Each call takes the law to the longer list of calls. Assumes nothing.
use Rattle.std.proofs.Common.{◌≡◌, ℕ, List, [], ◌∷◌, length, Ok, Option, Result, sym, refl, ap, ◌∙◌, subst}
use Rattle.faults.specs.declared.Fault.{Fault}
use Rattle.models.specs.Automaton.{Model, Lawful}
use Rattle.sheetlaw.specs.Rows.{Rows}
use Rattle.sheetlaw.specs.Calls.{Turn, letter, gap}
use Rattle.sheetlaw.specs.Step.{Contents, opening, opened, needs, answers, leaves, writes, cleared, pauses, leaves_gap}
use Rattle.sheetlaw.specs.Runs.{after, Exact, turn, turns}
use Rattle.sheetlaw.specs.Law.{Followed}
use Rattle.sheetlaw.specs.declared.Event.{Event}
use Rattle.sheetlaw.specs.declared.Event.TheVariants.{Letter, Gap}
use Rattle.sheetlaw.specs.declared.Answer.{Answer}
use Rattle.sheetlaw.proofs.Laws.{sheet-law}

module _ {K : Type 0} (m : Model K) (number : K → ℕ) (k : ℕ) (row : List K → List K → Option (List K)) (laws : Lawful m) (rows : Rows m number k row) (t0 : List K) where
  moved : (h : List (Turn K)) (s s' : Contents K) (t t' : List K) → s' ≡ s → t' ≡ t → Followed m number k row t0 h s t → Followed m number k row t0 h s' t'
  moved h s s' t t' e q i = subst (λ v. Followed m number k row t0 h v t') (sym e) (subst (λ v. Followed m number k row t0 h s v) (sym q) i)

  -- after the opening
  pub followed-opened : opening m k ≡ Ok opened → Followed m number k row t0 [] opened t0
  followed-opened opens = sheet-law m number k row t0 laws opens rows [] tt

  module _ (h : List (Turn K)) (s : Contents K) (t : List K) (past : Followed m number k row t0 h s t) where
    -- one letter more
    pub followed-letter : (x : K) (work left : List ℕ) (r : Result Answer Fault) (s' : Contents K) (t' : List K)
        → r ≡ answers m k row (length work) (length t) s x → left ≡ cleared (needs m) work → s' ≡ leaves m k row (length work) (length t) s x → t' ≡ writes m k row (length work) s x t
        → Followed m number k row t0 (letter x work r left ∷ h) s' t'
    followed-letter x work left r s' t' a c e q =
        let u = after m k row t0 h in
        let at : (F : Contents K → List K → Type 0) → F s t → F u.0 u.1 = λ F y. subst (λ v. F v u.1) past.sheet (subst (F s) past.table y) in
        moved (letter x work r left ∷ h) _ s' _ t'
        (at (λ v w. s' ≡ leaves m k row (length work) (length w) v x) e)
        (at (λ v w. t' ≡ writes m k row (length work) v x w) q)
        (sheet-law m number k row t0 laws past.opens rows (letter x work r left ∷ h) (past.exact, at (λ v w. r ≡ answers m k row (length work) (length w) v x) a, c))

    -- one gap more
    pub followed-gap : (r : Result (Unit {0}) Fault) (s' : Contents K) → r ≡ pauses s → s' ≡ leaves_gap s → Followed m number k row t0 (gap r ∷ h) s' t
    followed-gap r s' a e =
        moved (gap r ∷ h) _ s' _ t (e ∙ ap leaves_gap past.sheet) past.table
        (sheet-law m number k row t0 laws past.opens rows (gap r ∷ h) (past.exact, a ∙ ap pauses past.sheet))

-- the definitions give an exact list of calls for every list of letters and gaps, whatever work tables they bring
pub turns-exact : {K : Type 0} (m : Model K) (k : ℕ) (row : List K → List K → Option (List K)) (t0 : List K) (h : List (Turn K)) (es : List (Event K × List ℕ)) → Exact m k row t0 h → Exact m k row t0 (turns m k row t0 h es)
turns-exact m k row t0 h [] e = e
turns-exact m k row t0 h ((Letter x, work) ∷ es) e = turns-exact m k row t0 (turn m k row t0 h (Letter x, work) ∷ h) es (e, refl, refl)
turns-exact m k row t0 h ((Gap, work) ∷ es) e = turns-exact m k row t0 (turn m k row t0 h (Gap, work) ∷ h) es (e, refl)
