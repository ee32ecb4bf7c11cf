-- The join is the least string that joins. Assumes nothing.
use Rattle.std.proofs.Common.{◌≡◌, ℕ, ◌+◌, ◌≤◌, min, List, ◌++◌, length, Some, None, Option, sym, refl, ap, ◌∙◌, subst, ⊎_elim, arith}
use native.Mathlib.Nat.{min-eq_left, min-eq_right, min-le_right}
use Rattle.std.proofs.lemmas.List.{length-append}
use Rattle.std.proofs.lemmas.Bool.{cases_lt}
use Rattle.models.specs.Alphabet.{Alphabet, Numbered}
use Rattle.models.specs.Automaton.{Model, Pass}
use Rattle.models.specs.Strings.{Leads}
use Rattle.joinlaw.specs.Words.{letters}
use Rattle.joinlaw.specs.Bridges.{Bridge, row, join}
use Rattle.joinlaw.specs.Laws.{Joins, JoinIs, JoinLaw, JoinOnce}
use Rattle.joinlaw.proofs.Orders.{leads_front, least_once}
use Rattle.joinlaw.proofs.Letters.{letters_ascend, over-letters}
use Rattle.joinlaw.proofs.Rows.{Row, RowIs, row_is}

-- what comes after u is at least what the longest overlap leaves of v
rest-long : (a b x w : ℕ) → a + x ≡ w + b → b ≤ x + min a b
rest-long a b x w e = ⊎_elim
    (λ lt. let h : a ≤ b = omega arith in let k = min-eq_left h in omega arith)
    (λ ge. let k = min-eq_right ge in omega arith)
    (cases_lt a b)

module _ {K : Type 0} (A : Alphabet K) (numbered : Numbered A) (m : Model K) (u v : List K) where
  abbrev most : ℕ
  most = min (length u) (length v)

  row_joins : (x : List K) → Row m (letters A) u v most x → Joins m u v (u ++ x)
  row_joins x r = ((x, refl), r.1, r.0)

  joins_row : (s : List K) (j : Joins m u v s) → Row m (letters A) u v most j.0.0
  joins_row s (begins, (w, e), passes) =
      let x = begins.0 in
      let is = begins.1 in
      let n = length-append u x in
      let k = length-append w v in
      let l = ap length (sym is ∙ e) in
      (subst (Pass m) is passes, (w, sym is ∙ e), rest-long (length u) (length v) (length x) (length w) (omega arith), over-letters A numbered _)

  join_is : (o : Option (Bridge K)) → RowIs A m (letters A) u v most o → JoinIs A m u v o
  join_is (Some b) told = (
    (
      row_joins (row b v) told.0.0,
      λ s j. subst (Leads A.number (u ++ row b v)) (sym j.0.1) (leads_front A.number u (row b v) j.0.0 (told.0.1 j.0.0 (joins_row s j))),
    ),
    told.1,
  )
  join_is None told = λ s j. told j.0.0 (joins_row s j)

pub join-law : {K : Type 0} (A : Alphabet K) → Numbered A → JoinLaw A
join-law A numbered m lawful u v =
    join_is A numbered m u v (join A m u v)
    (row_is A numbered m lawful (letters A) (letters_ascend A numbered) u u v (min (length u) (length v)) (min-le_right (length u) (length v)) (record { state = refl; ends = λ o h. refl }))

-- the least string that joins is the join
pub join_once : {K : Type 0} (A : Alphabet K) → Numbered A → JoinOnce A
join_once {K} A numbered m lawful u v s least = go (join A m u v) refl (join-law A numbered m lawful u v) where
  go : (o : Option (Bridge K)) → join A m u v ≡ o → JoinIs A m u v o → (b : Bridge K) × (join A m u v ≡ Some b) × (s ≡ u ++ row b v)
  go (Some b) e is = (b, e, least_once A.number numbered.apart (Joins m u v) s (u ++ row b v) least is.0)
  go None e is = absurd (is s least.0)
