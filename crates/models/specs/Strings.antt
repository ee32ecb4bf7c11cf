-- Relations between strings, each defined once. A string is a list of letters. Assumes nothing.
--
--   Begins u s          s begins with u
--   Ends v s            s ends with v
--   Occurs w s          w is a part of s: neighbouring letters of it
--   Before number s t   s does not come after t in letter order, compared from the left by number
--   Leads number s t    s is shorter than t, or as long and not after it
--   Least number P s    of the strings with P, s is the shortest, and among equals the first in letter order
use Rattle.std.specs.Prelude.{◌≡◌, ℕ, ◌<◌, ◌⊎◌, List, [], ◌∷◌, ◌++◌, length}

abbrev pub Begins : {K : Type 0} → List K → List K → Type 0
Begins {K} u s = (t : List K) × (s ≡ u ++ t)

abbrev pub Ends : {K : Type 0} → List K → List K → Type 0
Ends {K} v s = (t : List K) × (s ≡ t ++ v)

abbrev pub Occurs : {K : Type 0} → List K → List K → Type 0
Occurs {K} w s = (x : List K) × ((y : List K) × (s ≡ x ++ (w ++ y)))

abbrev pub Before : {K : Type 0} → (K → ℕ) → List K → List K → Type 0
Before number [] t = Unit {0}
Before number (x ∷ s) [] = ⊥
Before number (x ∷ s) (y ∷ t) = (number x < number y) ⊎ ((number x ≡ number y) × Before number s t)

abbrev pub Leads : {K : Type 0} → (K → ℕ) → List K → List K → Type 0
Leads number s t = (length s < length t) ⊎ ((length s ≡ length t) × Before number s t)

abbrev pub Least : {K : Type 0} → (K → ℕ) → (List K → Type 0) → List K → Type 0
Least {K} number P s = P s × ((t : List K) → P t → Leads number s t)
