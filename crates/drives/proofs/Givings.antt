-- One letter or gap more of a trace. Assumes nothing.
use Rattle.std.proofs.Common.{◌≡◌, ℕ, List, [], ◌∷◌, ◌++◌, length, Option, Result, sym, refl, ap, ◌∙◌, subst}
use Rattle.faults.specs.declared.Fault.{Fault}
use Rattle.models.specs.Alphabet.{Alphabet}
use Rattle.models.specs.Automaton.{Model}
use Rattle.sheetlaw.specs.Calls.{Turn, letter, gap}
use Rattle.sheetlaw.specs.Step.{Contents, needs, answers, leaves, writes, leaves_gap, cleared, pauses}
use Rattle.sheetlaw.specs.Runs.{after, turn, turns}
use Rattle.sheetlaw.specs.Law.{Followed}
use Rattle.sheetlaw.specs.NextRow.{row_of}
use Rattle.sheetlaw.specs.declared.Answer.{Answer}
use Rattle.sheetlaw.specs.declared.Event.{Event}
use Rattle.sheetlaw.specs.declared.Event.TheVariants.{Letter, Gap}
use Rattle.drives.specs.Traces.{left_over, brought, one_more, driven}

-- what the work table holds after one more
abbrev pub after_one : {K : Type 0} → ℕ → List ℕ → Event K → List ℕ
after_one n work (Letter x) = cleared n work
after_one n work Gap = work

pub left_over-more : {K : Type 0} (n : ℕ) (work : List ℕ) (es : List (Event K)) (e : Event K) → left_over n work (es ++ e ∷ []) ≡ after_one n (left_over n work es) e
left_over-more n work [] (Letter x) = refl
left_over-more n work [] Gap = refl
left_over-more n work (Letter y ∷ es) e = left_over-more n (cleared n work) es e
left_over-more n work (Gap ∷ es) e = left_over-more n work es e

pub brought-more : {K : Type 0} (n : ℕ) (work : List ℕ) (es : List (Event K)) (e : Event K) → brought n work (es ++ e ∷ []) ≡ brought n work es ++ (e, left_over n work es) ∷ []
brought-more n work [] (Letter x) = refl
brought-more n work [] Gap = refl
brought-more n work (Letter y ∷ es) e = ap (λ r. (Letter y, work) ∷ r) (brought-more n (cleared n work) es e)
brought-more n work (Gap ∷ es) e = ap (λ r. (Gap, work) ∷ r) (brought-more n work es e)

pub driven-more : {K : Type 0} (m : Model K) (k : ℕ) (row : List K → List K → Option (List K)) (words : ℕ) (u : Contents K × List K) (es : List (Event K)) (e : Event K)
    → driven m k row words u (es ++ e ∷ []) ≡ one_more m k row words (driven m k row words u es) e
driven-more m k row words u [] e = refl
driven-more m k row words u (d ∷ es) e = driven-more m k row words (one_more m k row words u d) es e

both : {X Y : Type 0} (x x' : X) (y y' : Y) → x ≡ x' → y ≡ y' → ◌≡◌ {A = X × Y} (x, y) (x', y')
both x x' y y' p q = ap (λ z. (z, y)) p ∙ ap (λ z. (x', z)) q

-- one letter or gap more, by what its call leaves, where the sheet keeps its automaton and window length
module _ {V K : Type 0} (A : Alphabet K) (M : V → Model K) (v v0 : V) (k k0 words words0 : ℕ) (iv : v ≡ v0) (ik : k ≡ k0) (iw : words ≡ words0) (s : Contents K) (t : List K) where
  pub more-letter : (x : K) (s' : Contents K) (t' : List K) → s' ≡ leaves (M v) k (row_of A (M v)) words (length t) s x → t' ≡ writes (M v) k (row_of A (M v)) words s x t
      → ◌≡◌ {A = Contents K × List K} (s', t') (one_more (M v0) k0 (row_of A (M v0)) words0 (s, t) (Letter x))
  more-letter x s' t' p q =
      let U : V → ℕ → ℕ → Type 0 = λ v k n. ◌≡◌ {A = Contents K × List K} (s', t') (one_more (M v) k (row_of A (M v)) n (s, t) (Letter x)) in
      subst (λ n. U v0 k0 n) iw (subst (λ c. U v0 c words) ik (subst (λ w. U w k words) iv (both s' (leaves (M v) k (row_of A (M v)) words (length t) s x) t' (writes (M v) k (row_of A (M v)) words s x t) p q)))

  pub more-gap : (s' : Contents K) → s' ≡ leaves_gap s → ◌≡◌ {A = Contents K × List K} (s', t) (one_more (M v0) k0 (row_of A (M v0)) words0 (s, t) Gap)
  more-gap s' p = ap (λ z. (z, t)) p

module _ {K : Type 0} (m : Model K) (number : K → ℕ) (k : ℕ) (row : List K → List K → Option (List K)) (t0 : List K) where
  turns_more : (h : List (Turn K)) (es : List (Event K × List ℕ)) (e : Event K × List ℕ) → turns m k row t0 h (es ++ e ∷ []) ≡ turn m k row t0 (turns m k row t0 h es) e ∷ turns m k row t0 h es
  turns_more h [] e = refl
  turns_more h (d ∷ es) e = turns_more (turn m k row t0 h d ∷ h) es e

  -- the list of calls with one more of the trace
  pub more : (n : ℕ) (work : List ℕ) (h : List (Turn K)) (es : List (Event K)) (e : Event K)
      → turns m k row t0 h (brought n work (es ++ e ∷ [])) ≡ turn m k row t0 (turns m k row t0 h (brought n work es)) (e, left_over n work es) ∷ turns m k row t0 h (brought n work es)
  more n work h es e = ap (turns m k row t0 h) (brought-more n work es e) ∙ turns_more h (brought n work es) (e, left_over n work es)

  module _ (h : List (Turn K)) (s : Contents K) (t : List K) (past : Followed m number k row t0 h s t) where
    pub turn-letter : (x : K) (work : List ℕ) (r : Result Answer Fault) (left : List ℕ) → r ≡ answers m k row (length work) (length t) s x → left ≡ cleared (needs m) work → letter x work r left ≡ turn m k row t0 h (Letter x, work)
    turn-letter x work r left a c =
        ap (λ q. letter x work q left) (a ∙ ap (λ v. answers m k row (length work) (length t) v x) past.sheet ∙ ap (λ v. answers m k row (length work) (length v) (after m k row t0 h).0 x) past.table)
        ∙ ap (letter x work (answers m k row (length work) (length (after m k row t0 h).1) (after m k row t0 h).0 x)) c

    pub turn_gap : (work : List ℕ) (r : Result (Unit {0}) Fault) → r ≡ pauses s → gap r ≡ turn m k row t0 h (Gap, work)
    turn_gap work r a = ap gap (a ∙ ap pauses past.sheet)

-- the list of calls with one more of the trace, where the sheet keeps its automaton and window length
module _ {V K : Type 0} (A : Alphabet K) (M : V → Model K) (v v0 : V) (k k0 : ℕ) (iv : v ≡ v0) (ik : k ≡ k0) (t0 : List K) (h : List (Turn K)) (first work : List ℕ) (es : List (Event K)) (iw : work ≡ left_over (needs (M v0)) first es) where
  abbrev pub so_far : List (Event K) → List (Turn K)
  so_far es = turns (M v0) k0 (row_of A (M v0)) t0 h (brought (needs (M v0)) first es)

  same_turn : (e : Event K) → turn (M v) k (row_of A (M v)) t0 (so_far es) (e, work) ∷ so_far es ≡ so_far (es ++ e ∷ [])
  same_turn e =
      ap (λ u. turn (M u) k (row_of A (M u)) t0 (so_far es) (e, work) ∷ so_far es) iv
      ∙ ap (λ i. turn (M v0) i (row_of A (M v0)) t0 (so_far es) (e, work) ∷ so_far es) ik
      ∙ ap (λ w. turn (M v0) k0 (row_of A (M v0)) t0 (so_far es) (e, w) ∷ so_far es) iw
      ∙ sym (more (M v0) A.number k0 (row_of A (M v0)) t0 (needs (M v0)) first h es e)

  module _ (s : Contents K) (t : List K) (past : Followed (M v) A.number k (row_of A (M v)) t0 (so_far es) s t) where
    pub next-letter : (x : K) (r : Result Answer Fault) (left : List ℕ) → r ≡ answers (M v) k (row_of A (M v)) (length work) (length t) s x → left ≡ cleared (needs (M v)) work → letter x work r left ∷ so_far es ≡ so_far (es ++ Letter x ∷ [])
    next-letter x r left a c = ap (λ q. q ∷ so_far es) (turn-letter (M v) A.number k (row_of A (M v)) t0 (so_far es) s t past x work r left a c) ∙ same_turn (Letter x)

    pub next-gap : (r : Result (Unit {0}) Fault) → r ≡ pauses s → gap r ∷ so_far es ≡ so_far (es ++ Gap ∷ [])
    next-gap r a = ap (λ q. q ∷ so_far es) (turn_gap (M v) A.number k (row_of A (M v)) t0 (so_far es) s t past work r a) ∙ same_turn Gap
