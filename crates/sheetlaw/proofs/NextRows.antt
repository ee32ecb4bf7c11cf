-- The rows of the join are the rows that a sheet needs, so the law holds for every sheet. Assumes nothing.
use Rattle.std.proofs.Common.{◌≡◌, ℕ, ◌≤◌, List, [], ◌∷◌, length, Some, None, Ok, Option, Result, sym, ◌∙◌, subst, arith}
use Rattle.models.specs.Alphabet.{Alphabet, Numbered}
use Rattle.models.specs.Automaton.{Model, Lawful}
use Rattle.models.specs.Strings.{Least}
use Rattle.joinlaw.specs.Bridges.{Bridge, row, next_row}
use Rattle.joinlaw.proofs.NextRows.{next_row-law}
use Rattle.joinlaw.specs.Laws.{Continues, Follows, NextRowIs}
use Rattle.sheetlaw.specs.Rows.{Meet, Rows}
use Rattle.sheetlaw.proofs.Openings.{opening_fits}
use Rattle.sheetlaw.proofs.Laws.{sheet-law}
use Rattle.sheetlaw.proofs.Steps.{followed-opened, followed-letter, followed-gap}
use Rattle.sheetlaw.specs.Calls.{Turn, letter, gap}
use Rattle.sheetlaw.specs.Step.{Contents, opening, opened, needs, answers, leaves, writes, cleared, pauses, leaves_gap}
use Rattle.sheetlaw.specs.Law.{Followed}
use Rattle.sheetlaw.specs.declared.Answer.{Answer}
use Rattle.faults.specs.declared.Fault.{Fault}
use Rattle.sheetlaw.specs.NextRow.{appended_by, row_of, EverySheet}

module _ {K : Type 0} (A : Alphabet K) (numbered : Numbered A) (m : Model K) (laws : Lawful m) (k : ℕ) (some : 2 ≤ k) (recalls : m.memory ≤ k) where
  follows : (t u w : List K) → Meet m k t u w → Follows m t u w
  follows t u w i =
      let l : length u ≡ k = i.left in
      let r : length w ≡ k = i.right in
      record { passes = i.text; ends = i.ends; some = omega arith; long = l ∙ sym r; memory = omega arith }

  is_least : (t w : List K) (o : Option (Bridge K)) → NextRowIs A m t w o → (r : List K) → appended_by o w ≡ Some r → Least A.number (Continues m t w) r
  is_least t w (Some b) i r e = let same : row b w ≡ r = cc in subst (Least A.number (Continues m t w)) same i.0
  is_least t w None i r e = absurd (let z : ◌≡◌ {A = ℕ} 0 1 = cc in omega arith)

  is_none : (t w : List K) (o : Option (Bridge K)) → NextRowIs A m t w o → appended_by o w ≡ None → (r : List K) → Continues m t w r → ⊥
  is_none t w (Some b) i e r s = absurd (let z : ◌≡◌ {A = ℕ} 0 1 = cc in omega arith)
  is_none t w None i e r s = i r s

  pub next-rows : Rows m A.number k (row_of A m)
  next-rows = record {
    serves = λ t u w i r e. is_least t w (next_row A m u w) (next_row-law A numbered m laws t u w (follows t u w i)) r e;
    none = λ t u w i e r s. is_none t w (next_row A m u w) (next_row-law A numbered m laws t u w (follows t u w i)) e r s;
  }

module _ {K : Type 0} (A : Alphabet K) (numbered : Numbered A) (m : Model K) (laws : Lawful m) (k : ℕ) where
  rows : opening m k ≡ Ok opened → Rows m A.number k (row_of A m)
  rows opens = let fits = opening_fits m k opens in next-rows A numbered m laws k fits.some fits.recalls

  -- after the opening, and one call more
  pub after-opening : opening m k ≡ Ok opened → (t0 : List K) → Followed m A.number k (row_of A m) t0 [] opened t0
  after-opening opens t0 = followed-opened m A.number k (row_of A m) laws (rows opens) t0 opens

  module _ (t0 : List K) (h : List (Turn K)) (s : Contents K) (t : List K) (past : Followed m A.number k (row_of A m) t0 h s t) where
    pub after-letter : (x : K) (work left : List ℕ) (r : Result Answer Fault) (s' : Contents K) (t' : List K)
        → r ≡ answers m k (row_of A m) (length work) (length t) s x → left ≡ cleared (needs m) work → s' ≡ leaves m k (row_of A m) (length work) (length t) s x → t' ≡ writes m k (row_of A m) (length work) s x t
        → Followed m A.number k (row_of A m) t0 (letter x work r left ∷ h) s' t'
    after-letter = followed-letter m A.number k (row_of A m) laws (rows past.opens) t0 h s t past

    pub after-gap : (r : Result (Unit {0}) Fault) (s' : Contents K) → r ≡ pauses s → s' ≡ leaves_gap s → Followed m A.number k (row_of A m) t0 (gap r ∷ h) s' t
    after-gap = followed-gap m A.number k (row_of A m) laws (rows past.opens) t0 h s t past

pub every_sheet : {K : Type 0} (A : Alphabet K) → Numbered A → EverySheet A
every_sheet A numbered m laws k opens t0 h e = sheet-law m A.number k (row_of A m) t0 laws opens (rows A numbered m laws k opens) h e
