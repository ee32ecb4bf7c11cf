-- The strings over some letters, in order, and the first of them that passes a test. Assumes nothing.
--
--   listed o               the letter in an Option, as a string
--   letters_below A n      the letters with numbers below n, by number
--   letters A              the letters of an alphabet, by number
--   Ascending number xs    each letter of xs has a lower number than those after it
--   Over fill z            every letter of z is one of fill
--   words fill d           the strings of d letters over fill, in letter order
--   words_below fill n     the strings of fewer than n letters over fill, shorter ones first
--   first_that test ws     the first string of ws that passes a test
use Rattle.std.specs.Prelude.{ℕ, zero, suc, ◌<◌, Bool, cond, List, [], ◌∷◌, ◌++◌, map, Some, None, Option}
use mathlib.Core.List.{Memᴰ}
use Rattle.std.specs.List.{flat_map, AllByRecursion}
use Rattle.models.specs.Alphabet.{Alphabet}

abbrev pub listed : {K : Type 0} → Option K → List K
listed (Some x) = x ∷ []
listed None = []

abbrev pub letters_below : {K : Type 0} → Alphabet K → ℕ → List K
letters_below A zero = []
letters_below A (suc n) = letters_below A n ++ listed (A.letter n)

abbrev pub letters : {K : Type 0} → Alphabet K → List K
letters A = letters_below A A.size

abbrev pub Ascending : {K : Type 0} → (K → ℕ) → List K → Type 0
Ascending number [] = Unit {0}
Ascending number (x ∷ xs) = AllByRecursion (λ y. number x < number y) xs × Ascending number xs

abbrev pub Over : {K : Type 0} → List K → List K → Type 0
Over fill z = AllByRecursion (λ x. Memᴰ x fill) z

abbrev pub words : {K : Type 0} → List K → ℕ → List (List K)
words fill zero = [] ∷ []
words fill (suc d) = flat_map (λ x. map (λ w. x ∷ w) (words fill d)) fill

abbrev pub words_below : {K : Type 0} → List K → ℕ → List (List K)
words_below fill zero = []
words_below fill (suc n) = words_below fill n ++ words fill n

abbrev pub first_that : {K : Type 0} → (List K → Bool) → List (List K) → Option (List K)
first_that test [] = None
first_that test (w ∷ ws) = cond (test w) (Some w) (first_that test ws)
