-- The next row is the least that brings a text to its next window. Assumes nothing.
use Rattle.std.proofs.Common.{◌≡◌, ℕ, ◌-◌, ◌≤◌, List, [], ◌++◌, length, Some, None, Option, sym, ap, ◌∙◌, subst, arith}
use Rattle.std.proofs.lemmas.List.{append-nil, length-append}
use Rattle.models.specs.Alphabet.{Alphabet, Numbered}
use Rattle.models.specs.Automaton.{Model, Lawful, Pass, last}
use Rattle.joinlaw.specs.Words.{letters}
use Rattle.joinlaw.specs.Bridges.{Bridge, row, next_row}
use Rattle.joinlaw.specs.Laws.{Continues, NextRowIs, Follows, NextRowLaw}
use Rattle.joinlaw.proofs.Letters.{letters_ascend, over-letters}
use Rattle.joinlaw.proofs.Orders.{least_as}
use Rattle.joinlaw.proofs.Ends.{last_end}
use Rattle.joinlaw.proofs.Rows.{Row, RowIs, Stands, row_is}

module _ {K : Type 0} (m : Model K) (lawful : Lawful m) (t u v : List K) (follows : Follows m t u v) where
  ends_as : (o : ℕ) → o ≤ length u → last o t ≡ last o u
  ends_as o h = let e = follows.ends in ap (last o) e.1 ∙ last_end o e.0 u h

  window-passes : Pass m u
  window-passes =
      let e = follows.ends in
      lawful.parts e.0 u [] (subst (Pass m) (e.1 ∙ ap (λ w. e.0 ++ w) (sym (append-nil u))) follows.passes)

  -- the last window leads to the state of the whole text
  pub window_stands : Stands m t u (length v - 1)
  window_stands =
      let e = follows.ends in
      let n = ap length e.1 in
      let k = length-append e.0 u in
      let same = follows.long in
      let few = follows.memory in
      record {
        state = lawful.forgets t u follows.passes window-passes (omega arith) (omega arith) (ends_as m.memory (omega arith));
        ends = λ o h. ends_as o (omega arith);
      }

module _ {K : Type 0} (A : Alphabet K) (numbered : Numbered A) (m : Model K) (t v : List K) (some : 1 ≤ length v) where
  row_continues : (x : List K) → Row m (letters A) t v (length v - 1) x → Continues m t v x
  row_continues x r = let h = r.2 in (omega arith, r.0, r.1)

  continues_row : (x : List K) → Continues m t v x → Row m (letters A) t v (length v - 1) x
  continues_row x c = let h = c.0 in (c.1, c.2, omega arith, over-letters A numbered _)

  next_row_is : (o : Option (Bridge K)) → RowIs A m (letters A) t v (length v - 1) o → NextRowIs A m t v o
  next_row_is (Some b) is = (least_as A.number (Row m (letters A) t v (length v - 1)) (Continues m t v) row_continues continues_row (row b v) is.0, is.1)
  next_row_is None is = λ x c. is x (continues_row x c)

pub next_row-law : {K : Type 0} (A : Alphabet K) → Numbered A → NextRowLaw A
next_row-law A numbered m lawful t u v follows =
    next_row_is A numbered m t v follows.some (next_row A m u v)
    (row_is A numbered m lawful (letters A) (letters_ascend A numbered) t u v (length v - 1) (let h = follows.some in omega arith) (window_stands m lawful t u v follows))
