-- The letters along the parents of a place. Assumes nothing.
--
--   numbers p l i          the numbers of the letters from the first place of the queue to the place i
--   spelling pick p l i    these letters
--   Traced pick p l i      up to the place i, parents stand earlier and each number is that of a letter
use Rattle.std.specs.Prelude.{◌≡◌, ℕ, zero, suc, ◌<◌, ◌≤◌, true, List, [], ◌∷◌, ◌++◌, is_some, Option}
use Rattle.joinlaw.specs.Words.{listed}

-- with fuel, of which i is enough for the place i where parents stand earlier
abbrev pub numbers_by : (ℕ → ℕ) → (ℕ → ℕ) → ℕ → ℕ → List ℕ
numbers_by p l zero i = []
numbers_by p l (suc k) zero = []
numbers_by p l (suc k) (suc i) = numbers_by p l k (p (suc i)) ++ (l (suc i) ∷ [])

abbrev pub numbers : (ℕ → ℕ) → (ℕ → ℕ) → ℕ → List ℕ
numbers p l i = numbers_by p l i i

abbrev pub spelled : {K : Type 0} → (ℕ → Option K) → List ℕ → List K
spelled pick [] = []
spelled pick (c ∷ cs) = listed (pick c) ++ spelled pick cs

abbrev pub spelling : {K : Type 0} → (ℕ → Option K) → (ℕ → ℕ) → (ℕ → ℕ) → ℕ → List K
spelling pick p l i = spelled pick (numbers p l i)

pub record Traced {K : Type 0} (pick : ℕ → Option K) (p l : ℕ → ℕ) (i : ℕ) : Type 0 where
  pub earlier : (j : ℕ) → 0 < j → j ≤ i → p j < j
  pub letter : (j : ℕ) → 0 < j → j ≤ i → is_some (pick (l j)) ≡ true
