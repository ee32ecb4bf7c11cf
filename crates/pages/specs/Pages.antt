-- What stands on a page, and numbers in columns. Assumes nothing.
--
--   over xs ys       ys with xs written over its front, as much of xs as ys has room for
--   Holds p xs ys    on the page p, which first held ys, xs was written
--   Wrote p q more   the page q is p after `more` was written on it
--   labelled a n b  the label a, the digits of n, and the end b
--   columns w n      n right-justified with blanks in w columns, in more where it has more digits
use Rattle.std.specs.Prelude.{◌≡◌, ℕ, ◌-◌, min, List, [], ◌∷◌, ◌++◌, length, replicate, decimal}
use Rattle.pages.specs.declared.Page.{Page}

abbrev pub over : {X : Type 0} → List X → List X → List X
over [] ys = ys
over (x ∷ xs) [] = []
over (x ∷ xs) (y ∷ ys) = x ∷ over xs ys

abbrev pub Holds : Page → List ℕ → List ℕ → Type 0
Holds p xs ys = (p.bytes.now ≡ over xs ys) × (p.used ≡ min (length xs) (length ys))

pub record Wrote (p q : Page) (more : List ℕ) : Type 0 where
  pub text : (xs ys : List ℕ) → Holds p xs ys → Holds q (xs ++ more) ys
  -- it is the same lent slice
  pub page : q.bytes.ghost_name ≡ p.bytes.ghost_name

abbrev pub columns : ℕ → ℕ → List ℕ
columns w n = replicate (w - length (decimal n)) 32 ++ decimal n

abbrev pub labelled : List ℕ → ℕ → List ℕ → List ℕ
labelled a n b = a ++ (decimal n ++ b)
