-- Patterns, the states that they bring, and what follows a state and a letter. Assumes nothing.
--
--   Word            a string, written as the numbers of its letters
--   coded A ps      patterns over the letters of A, as words
--   same s t        whether two words are equal
--   member ws w     whether w is among ws
--   place ws w      where w first stands in ws
--   with ws v       ws, and then v if it is not there yet
--   gather ws vs    ws, and then each of vs that is not there yet, once
--   Places ws       each of ws stands there once
--   fronts p        the proper prefixes of p, shortest first
--   states ps       the distinct proper prefixes of the patterns with the empty word, in order of first appearance
--   memory ps       the length of the longest pattern less 1, or 0 if there is none
--   hit ps t        whether a pattern is a suffix of t
--   longest ws t    where the longest suffix of t that is among ws stands there
use Rattle.std.specs.Prelude.{◌≡◌, ℕ, suc, ◌-◌, ◌<◌, max, Bool, true, false, cond, ◌&&◌, ◌||◌, List, [], ◌∷◌, ◌++◌, map, length, ◌==◌, slice_index_or}
use Rattle.std.specs.List.{flat_map}
use Rattle.models.specs.Alphabet.{Alphabet}

abbrev pub Word : Type 0
Word = List ℕ

abbrev pub coded : {K : Type 0} → Alphabet K → List (List K) → List Word
coded A ps = map (map A.number) ps

abbrev pub same : Word → Word → Bool
same [] [] = true
same [] (y ∷ t) = false
same (x ∷ s) [] = false
same (x ∷ s) (y ∷ t) = x == y && same s t

abbrev pub member : List Word → Word → Bool
member [] w = false
member (v ∷ ws) w = same v w || member ws w

abbrev pub place : List Word → Word → ℕ
place [] w = 0
place (v ∷ ws) w = cond (same v w) 0 (suc (place ws w))

abbrev pub with : List Word → Word → List Word
with ws v = cond (member ws v) ws (ws ++ (v ∷ []))

abbrev pub gather : List Word → List Word → List Word
gather ws [] = ws
gather ws (v ∷ vs) = gather (with ws v) vs

abbrev pub Places : List Word → Type 0
Places ws = (i : ℕ) → i < length ws → place ws (slice_index_or ws i []) ≡ i

abbrev pub fronts : Word → List Word
fronts [] = []
fronts (c ∷ p) = [] ∷ map (λ w. c ∷ w) (fronts p)

abbrev pub states : List Word → List Word
states ps = gather ([] ∷ []) (flat_map fronts ps)

abbrev pub extent : List Word → ℕ
extent [] = 0
extent (p ∷ ps) = max (length p) (extent ps)

abbrev pub memory : List Word → ℕ
memory ps = extent ps - 1

abbrev pub hit : List Word → Word → Bool
hit ps [] = member ps []
hit ps (c ∷ t) = member ps (c ∷ t) || hit ps t

abbrev pub longest : List Word → Word → ℕ
longest ws [] = place ws []
longest ws (c ∷ t) = cond (member ws (c ∷ t)) (place ws (c ∷ t)) (longest ws t)
