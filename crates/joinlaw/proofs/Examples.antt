-- Small joins, by evaluation. The letters are false, written a, and true, written b. Assumes nothing.
use Rattle.std.proofs.Common.{◌≡◌, ℕ, ◌+◌, ◌*◌, Bool, true, false, cond, eqb, List, [], ◌∷◌, get_or, Some, None, Option, refl}
use Rattle.models.specs.Alphabet.{Alphabet}
use Rattle.models.specs.Automaton.{Model}
use Rattle.joinlaw.specs.Bridges.{bridge, filling, join, next_row}

abbrev a : Bool
a = false

abbrev b : Bool
b = true

abbrev two : Alphabet Bool
two = record { size = 2; number = λ x. cond x 1 0; letter = λ n. cond (eqb n 0) (Some a) (cond (eqb n 1) (Some b) None) }

-- a table of steps, two for each state: by a, and by b
abbrev table : ℕ → List (Option ℕ) → Model Bool
table count steps = record { count = count; start = 0; next = λ q x. get_or steps (2 * q + cond x 1 0) None; memory = 3 }

abbrev stop : Option ℕ
stop = None

-- nothing is stopped
abbrev free : Model Bool
free = table 1 (Some 0 ∷ Some 0 ∷ [])

-- ab is stopped
abbrev no_ab : Model Bool
no_ab = table 2 (Some 1 ∷ Some 0 ∷ Some 1 ∷ stop ∷ [])

-- baab is stopped; the states after b, ba and baa are 1, 2 and 3
abbrev no_baab : Model Bool
no_baab = table 4 (Some 0 ∷ Some 1 ∷ Some 2 ∷ Some 1 ∷ Some 3 ∷ Some 1 ∷ Some 0 ∷ stop ∷ [])

-- bbbb, aaba and abba are stopped; the states after b, bb, bbb, a, aa, aab, ab and abb are 1 to 8
abbrev no_three : Model Bool
no_three =
    table 9 (Some 4 ∷ Some 1 ∷ Some 4 ∷ Some 2 ∷ Some 4 ∷ Some 3 ∷ Some 4 ∷ stop ∷ Some 5 ∷ Some 7 ∷ Some 5 ∷ Some 6 ∷ stop ∷ Some 8 ∷ Some 4 ∷ Some 8 ∷ stop ∷ Some 3 ∷ [])

-- ab and ba make aba
overlap_by_one : join two free (a ∷ b ∷ []) (b ∷ a ∷ []) ≡ Some (record { overlap = 1; filling = [] })
unfolding bridge filling
overlap_by_one = refl

-- baa and aab make baaab: the overlap of two is stopped, that of one is not
not_the_longest : join two no_baab (b ∷ a ∷ a ∷ []) (a ∷ a ∷ b ∷ []) ≡ Some (record { overlap = 1; filling = [] })
unfolding bridge filling
not_the_longest = refl

-- aab and aba make aabbbaba
filled_by_two : join two no_three (a ∷ a ∷ b ∷ []) (a ∷ b ∷ a ∷ []) ≡ Some (record { overlap = 0; filling = b ∷ b ∷ [] })
unfolding bridge filling
filled_by_two = refl

none_joins : join two no_ab (a ∷ []) (b ∷ []) ≡ None
unfolding bridge filling
none_joins = refl

both_empty : join two free [] [] ≡ Some (record { overlap = 0; filling = [] })
unfolding bridge filling
both_empty = refl

-- all of a context overlaps in a join, and all but one letter of a window in the next row
whole-overlap : join two free (a ∷ a ∷ []) (a ∷ a ∷ []) ≡ Some (record { overlap = 2; filling = [] })
unfolding bridge filling
whole-overlap = refl

equal_windows : next_row two free (a ∷ a ∷ []) (a ∷ a ∷ []) ≡ Some (record { overlap = 1; filling = [] })
unfolding bridge filling
equal_windows = refl
