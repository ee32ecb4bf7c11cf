-- The lines with which a report on a station file begins. Assumes nothing.
--
--   letter_bytes printed size   the printed letters of a kind, by number
--   kind_line k                 the kind: its name and its letters
--   limit_line r                the run limit
--   heading_lines k n r         the kind, the number of patterns and the run limit
--   automaton_line n m          the automaton's count of states, and its memory
use Rattle.std.specs.Prelude.{ℕ, List, [], ◌∷◌, ◌++◌, map, Some, None, codes, Option}
use Rattle.std.specs.List.{range_with_len}
use Rattle.pages.specs.Pages.{labelled}
use Rattle.letters.specs.Two.{two_printed}
use Rattle.letters.specs.Trends.{trend_printed}
use Rattle.letters.specs.Seepages.{seepage_printed}
use Rattle.stations.specs.declared.Kind.{Kind}
use Rattle.stations.specs.declared.Kind.TheVariants.{Two, Trend, Seepage}

abbrev pub letter_bytes : (ℕ → ℕ) → ℕ → List ℕ
letter_bytes printed size = map printed (range_with_len 0 size)

abbrev pub kind_line : Kind → List ℕ
kind_line Two = codes "kind A: " ++ (letter_bytes two_printed 2 ++ (10 ∷ []))
kind_line Trend = codes "kind P: " ++ (letter_bytes trend_printed 6 ++ (10 ∷ []))
kind_line Seepage = codes "kind Q: " ++ (letter_bytes seepage_printed 8 ++ (10 ∷ []))

abbrev pub limit_line : Option ℕ → List ℕ
limit_line (Some r) = labelled (codes "run limit: ") r (10 ∷ [])
limit_line None = codes "run limit: none\n"

abbrev pub heading_lines : Kind → ℕ → Option ℕ → List ℕ
heading_lines k n r = kind_line k ++ (labelled (codes "patterns: ") n (10 ∷ []) ++ limit_line r)

abbrev pub automaton_line : ℕ → ℕ → List ℕ
automaton_line n m = labelled (codes "automaton: ") n (codes " states, memory ") ++ labelled [] m (10 ∷ [])
