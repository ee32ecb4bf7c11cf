-- The steps back along the parents. Assumes nothing.
use Rattle.std.proofs.Common.{◌≡◌, ℕ, zero, suc, ◌+◌, ◌-◌, ◌<◌, ◌≤◌, Bool, true, List, [], ◌∷◌, ◌++◌, length, drop, set, is_some, Some, None, Option, sym, refl, ap, ◌∙◌, arith}
use Rattle.std.proofs.lemmas.List.{append_assoc, length-append, length_push, length-set, drop-set}
use Rattle.std.proofs.lemmas.Bool.{false≢true}
use Rattle.models.specs.Automaton.{Model}
use Rattle.joinlaw.specs.Words.{listed}
use Rattle.joins.specs.Queue.{step_by, Found}
use Rattle.joins.specs.Spelling.{numbers, numbers_by, spelled, spelling, Traced}
use Rattle.joins.proofs.FirstWord.{numbers_more}
use Rattle.joins.proofs.Expansions.{step_picks}

module _ (p l : ℕ → ℕ) (place : ℕ) (earlier : (i : ℕ) → 0 < i → i ≤ place → p i < i) where
  -- a step to the parent is a letter fewer
  pub length-numbers : (at : ℕ) → 0 < at → at ≤ place → length (numbers p l at) ≡ length (numbers p l (p at)) + 1
  length-numbers at some le =
      ap length (numbers_more p l (suc place) (λ i pos lt. earlier i pos (omega arith)) at some (omega arith)) ∙ length_push (numbers p l (p at)) (l at)

-- a place is reached by at most as many letters as places stand before it
numbers_by-few : (p l : ℕ → ℕ) (k i : ℕ) → length (numbers_by p l k i) ≤ k
numbers_by-few p l zero i = omega arith
numbers_by-few p l (suc k) zero = omega arith
numbers_by-few p l (suc k) (suc i) = let n = length_push (numbers_by p l k (p (suc i))) (l (suc i)) in let h = numbers_by-few p l k (p (suc i)) in omega arith

pub numbers-few : (p l : ℕ → ℕ) (i : ℕ) → length (numbers p l i) ≤ i
numbers-few p l i = numbers_by-few p l i i

length-listed : {K : Type 0} (o : Option K) → is_some o ≡ true → length (listed o ++ []) ≡ 1
length-listed (Some x) e = refl
length-listed None e = absurd (false≢true e)

spelled-append : {K : Type 0} (pick : ℕ → Option K) (cs ds : List ℕ) → spelled pick (cs ++ ds) ≡ spelled pick cs ++ spelled pick ds
spelled-append pick [] ds = refl
spelled-append pick (c ∷ cs) ds = ap (λ w. listed (pick c) ++ w) (spelled-append pick cs ds) ∙ sym (append_assoc (listed (pick c)) (spelled pick cs) (spelled pick ds))

-- what is written so far comes after the letters that lead to the place at
pub record Spelled {K : Type 0} (pick : ℕ → Option K) (p l : ℕ → ℕ) (place at left : ℕ) (out : List K) : Type 0 where
  pub within : at ≤ place
  pub left_is : left ≡ length (numbers p l at)
  pub fits : left ≤ length out
  pub whole : spelling pick p l place ≡ spelling pick p l at ++ drop left out

module _ {K : Type 0} (pick : ℕ → Option K) (p l : ℕ → ℕ) (place : ℕ) (traced : Traced pick p l place) where
  spelling-more : (at : ℕ) (x : K) → 0 < at → at ≤ place → pick (l at) ≡ Some x → spelling pick p l at ≡ spelling pick p l (p at) ++ (x ∷ [])
  spelling-more at x some le e =
      ap (spelled pick) (numbers_more p l (suc place) (λ i pos lt. traced.earlier i pos (omega arith)) at some (omega arith))
      ∙ spelled-append pick (numbers p l (p at)) (l at ∷ [])
      ∙ ap (λ o. spelling pick p l (p at) ++ (listed o ++ [])) e

  pub spelled-turn : (at left : ℕ) (out : List K) (x : K) → Spelled pick p l place at left out → 0 < at → pick (l at) ≡ Some x → Spelled pick p l place (p at) (left - 1) (set out (left - 1) x)
  spelled-turn at left out x s some e =
      let le = s.within in
      let is = s.left_is in
      let fits = s.fits in
      let lower = traced.earlier at some le in
      let n = length-numbers p l place traced.earlier at some le in
      let k = length-set out (left - 1) x in
      let one : left - 1 + 1 ≡ left = omega arith in
      record {
        within = omega arith;
        left_is = omega arith;
        fits = omega arith;
        whole = s.whole
            ∙ ap (λ w. w ++ drop left out) (spelling-more at x some le e)
            ∙ append_assoc (spelling pick p l (p at)) (x ∷ []) (drop left out)
            ∙ ap (λ w. spelling pick p l (p at) ++ w) (ap (λ i. x ∷ drop i out) (sym one) ∙ sym (drop-set out (left - 1) x (omega arith)));
      }

  -- where letters are left to be written, the first place is not reached yet
  pub spelled-on : (at left : ℕ) (out : List K) → Spelled pick p l place at left out → 0 < left → 0 < at
  spelled-on zero left out s some = absurd (omega (arith, s.left_is))
  spelled-on (suc at) left out s some = omega arith

  -- the letter of a number is there
  pub letter-some : (at : ℕ) → 0 < at → at ≤ place → pick (l at) ≡ None → ⊥
  letter-some at some le e = false≢true (ap is_some (sym e) ∙ traced.letter at some le)

  -- so there are as many letters as numbers
  length_spelled_by : (k i : ℕ) → i ≤ k → i ≤ place → length (spelled pick (numbers_by p l k i)) ≡ length (numbers_by p l k i)
  length_spelled_by zero i a b = refl
  length_spelled_by (suc k) zero a b = refl
  length_spelled_by (suc k) (suc i) a b =
      let lower = traced.earlier (suc i) (omega arith) b in
      let front = numbers_by p l k (p (suc i)) in
      let r = length_spelled_by k (p (suc i)) (omega arith) (omega arith) in
      let n = length_push front (l (suc i)) in
      let here = length-listed (pick (l (suc i))) (traced.letter (suc i) (omega arith) b) in
      let e = ap length (spelled-append pick front (l (suc i) ∷ [])) in
      let m = length-append (spelled pick front) (spelled pick (l (suc i) ∷ [])) in
      omega arith

  pub length-spelling : length (spelling pick p l place) ≡ length (numbers p l place)
  length-spelling = length_spelled_by place place (omega arith) (omega arith)

-- a search that has found a place has a trace of it
pub found-traced : {K : Type 0} (pick : ℕ → Option K) (m : Model K) (goal : ℕ → Bool) (start : ℕ) (q p l : ℕ → ℕ) (head : ℕ) → Found (step_by pick m) goal start q p l head → Traced pick p l head
found-traced pick m goal start q p l head found =
    let lt = found.within in
    record {
      earlier = λ j some le. found.searched.parent j some (omega arith);
      letter = λ j some le. step_picks pick m (q (p j)) (l j) (q j) (found.searched.goes j some (omega arith));
    }
