-- The run automaton: what it keeps, and which strings it lets pass. Assumes nothing.
--
--   run_next r c    the steps over letters given by number, with run limit r and c letters
--   run_model A r   the automaton over the letters of the alphabet A
--   Short r xs      no letter stands more than r times in a row in xs
--   OnlyShort m r   the automaton m lets pass exactly the strings that are Short r
use Rattle.std.specs.Prelude.{ℕ, ◌+◌, ◌*◌, cond, ◌&&◌, List, replicate, Some, None, ◌==◌, nat_le, nat_lt}
use Rattle.models.specs.Alphabet.{Alphabet}
use Rattle.models.specs.Automaton.{Next, Model, Pass}
use Rattle.models.specs.Strings.{Occurs}

-- State 0 is 'none yet'; a * r + k, with k from 1 to r, says that the last letter is a, for the k-th time in a row.
abbrev pub run_next : ℕ → ℕ → Next ℕ
run_next r c q a =
    cond (nat_lt a c && nat_le q (r * c)) (cond (nat_lt (a * r) q && nat_le q (a * r + r)) (cond (q == a * r + r) None (Some (q + 1))) (Some (a * r + 1))) None

abbrev pub run_model : {K : Type 0} → Alphabet K → ℕ → Model K
run_model A r = record {
  count = 1 + r * A.size;
  start = 0;
  next = λ q x. run_next r A.size q (A.number x);
  memory = r;
}

abbrev pub Short : {K : Type 0} → ℕ → List K → Type 0
Short {K} r xs = (a : K) → Occurs (replicate (r + 1) a) xs → ⊥

abbrev pub OnlyShort : {K : Type 0} → Model K → ℕ → Type 0
OnlyShort {K} m r = (xs : List K) → (Pass m xs → Short r xs) × (Short r xs → Pass m xs)
