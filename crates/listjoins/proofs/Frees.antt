-- The automaton of a list lets pass exactly the strings in which no pattern occurs, so its join is theirs. Assumes nothing.
use Rattle.std.proofs.Common.{◌≡◌, ℕ, ◌+◌, ◌*◌, ◌≤◌, ltb, leb, List, ◌++◌, length, Some, None, Err, Option, Result, sym, refl, ap, ◌∙◌, arith}
use Rattle.std.proofs.lemmas.Bool.{cond_both, cond-false, le-ltb}
use Rattle.faults.specs.declared.Fault.{Fault}
use Rattle.faults.specs.Causes.{number_of, no_string, short_text}
use Rattle.models.specs.Alphabet.{Alphabet}
use Rattle.models.specs.Automaton.{Model, Passes, walk, stopped}
use Rattle.models.proofs.Walks.{stops-none}
use Rattle.joinlaw.specs.Bridges.{Bridge, row, join}
use Rattle.joinlaw.specs.Laws.{Joins, JoinIs}
use Rattle.joins.specs.Answers.{appended, passed_or, joined, answer}
use Rattle.joins.specs.declared.answers.Joined.{Joined}
use Rattle.listlaw.specs.Table.{Means}
use Rattle.listjoins.specs.Free.{Clear, Free, FreeIs, Impossible}

-- a string that passes is not stopped
unstopped : {K : Type 0} (m : Model K) (xs : List K) → Passes m.next m.start xs → stopped m xs ≡ None
unstopped m xs p = found (walk m.next m.start xs) refl p
  where
    found : (o : Option ℕ) → walk m.next m.start xs ≡ o → Passes m.next m.start xs → stopped m xs ≡ None
    found (Some t) e p = stops-none m.next m.start t xs e
    found None e p = absurd (let z : ◌≡◌ {A = ℕ} 0 1 = cc in omega arith)

module _ {K : Type 0} (A : Alphabet K) (m : Model K) (ps : List (List K)) (means : Means A m ps) (u v : List K) where
  free : (s : List K) → Joins m u v s → Free ps u v s
  free s h = (h.0, h.1, λ p has occurs. means.stops s p has occurs h.2)

  joins : (s : List K) → Free ps u v s → Joins m u v s
  joins s h = (h.0, h.1, means.passes s h.2)

  pub free_is : (o : Option (Bridge K)) → JoinIs A m u v o → FreeIs A ps u v o
  free_is (Some b) h = (free (u ++ row b v) h.0.0, λ t f. h.0.1 t (joins t f))
  free_is None h = λ s f. h s (joins s f)

  -- where no earlier cause holds, the answer is that of the bridge
  unhindered : (room words : ℕ) → 4 * m.count ≤ words → length u ≤ 50000 → length v ≤ 50000 → Clear ps u → Clear ps v → answer A m u v room words ≡ appended (join A m u v) v (length u) room
  unhindered room words long left right cu cv =
      let rest = appended (join A m u v) v (length u) room in
      cond-false (ltb words (4 * m.count)) _ (joined A m u v room) (le-ltb words (4 * m.count) long)
      ∙ cond-false (ltb 50000 (length u)) _ _ (le-ltb 50000 (length u) left)
      ∙ cond-false (ltb 50000 (length v)) _ _ (le-ltb 50000 (length v) right)
      ∙ ap (λ o. passed_or o 0 (passed_or (stopped m v) (length u) rest)) (unstopped m u (means.passes u cu))
      ∙ ap (λ o. passed_or o (length u) rest) (unstopped m v (means.passes v cv))

  unjoined : (o : Option (Bridge K)) (room : ℕ) → FreeIs A ps u v o → appended o v (length u) room ≡ Err (no_string 0) → (s : List K) → Free ps u v s → ⊥
  unjoined (Some b) room is =
      cond_both (leb (length u + length (row b v)) room) _ _ (λ (r : Result Joined Fault). r ≡ Err (no_string 0) → (s : List K) → Free ps u v s → ⊥)
      (λ _ e. absurd (let z : ◌≡◌ {A = ℕ} 0 1 = cc in omega arith)) (λ _ e. let same : short_text (length u + length (row b v)) ≡ no_string 0 = cc in absurd (let nine : ◌≡◌ {A = ℕ} 9 8 = ap number_of same in omega arith))
  unjoined None room is = λ e. is

  none_joins : (o : Option (Bridge K)) (room : ℕ) → FreeIs A ps u v o → ((s : List K) → Free ps u v s → ⊥) → appended o v (length u) room ≡ Err (no_string 0)
  none_joins (Some b) room is none = absurd (none (u ++ row b v) is.0)
  none_joins None room is none = refl

  pub impossible_is : (room words : ℕ) (r : Result Joined Fault) → r ≡ answer A m u v room words → FreeIs A ps u v (join A m u v) → Impossible A ps u v words r
  impossible_is room words r e is long left right cu cv =
      let same = e ∙ unhindered room words (omega (arith, means.count)) left right cu cv in (
        λ refused. unjoined (join A m u v) room is (sym same ∙ refused),
        λ none. same ∙ none_joins (join A m u v) room is none,
      )
