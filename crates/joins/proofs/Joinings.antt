-- The last steps of a join. Assumes nothing.
use Rattle.std.proofs.Common.{◌≡◌, ℕ, ◌+◌, List, ◌++◌, length, take, drop, Some, None, Ok, Err, Option, sym, refl, ap, ◌∙◌, ⊎_elim, arith}
use borrow.Rule.Slice.PartMut.{put_mid}
use Rattle.std.proofs.lemmas.List.{append_assoc, length-append, length-take-le, drop_at}
use Rattle.std.proofs.lemmas.Bool.{cases_lt}
use Rattle.faults.specs.declared.Fault.{Fault}
use Rattle.joinlaw.specs.Bridges.{Bridge, row}
use Rattle.joins.specs.declared.answers.Joined.{Joined}
use Rattle.joins.specs.Answers.{appended, appended_text, written}
use Rattle.joins.proofs.Puts.{put_short, put_text_fits, mid_is}

never : {T : Type 0} (P : Type 0) (f : Fault) (x : T) → Err f ≡ Ok x → P
never P f x e = let z : ◌≡◌ {A = ℕ} 0 1 = cc in absurd (omega arith)

-- the left context, written before the row, makes the string whole
module _ {K : Type 0} (u v text : List K) (j : Joined) where
  pub front_written : (o : Option (Bridge K)) → appended o v (length u) (length text) ≡ Ok j → u ++ drop (length u) (appended_text o v (length u) text) ≡ written o u v text
  front_written None e = never _ _ _ e
  front_written (Some b) e = ⊎_elim
      (λ short. never _ _ _ (sym (put_short b v (length u) (length u + length (row b v)) refl (length text) short) ∙ e))
      (λ fits.
      let end : ℕ = length u + length (row b v) in
      let front = length-take-le (length u) text (omega arith) in
      let all = length-append u (row b v) in
      ap (λ w. u ++ drop (length u) w) (put_text_fits b v (length u) end refl text fits)
      ∙ ap (λ w. u ++ w) (drop_at (take (length u) text) (row b v ++ drop end text) (length u) front)
      ∙ sym (append_assoc u (row b v) (drop end text))
      ∙ ap (λ i. (u ++ row b v) ++ drop i text) (sym all))
      (cases_lt (length text) (length u + length (row b v)))

  pub front_is : (k : ℕ) (now front : List K) → front ≡ u → k ≡ length u → put_mid 0 k now front ≡ u ++ drop (length u) now
  front_is k now front e n = mid_is 0 k (length u) now front u e n (omega arith)
