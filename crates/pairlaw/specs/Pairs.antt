-- Two automata side by side. Assumes nothing.
--
--   pair_model u v  the pair of the automata u and v
--   OnlyBoth m u v  the automaton m lets pass exactly what both u and v let pass
--
-- An automaton has at most 4,096 states. A pair whose product is larger is never made; so that every pair of two
-- automata has a meaning, such a one has a single state, which stops each letter.
use Rattle.std.specs.Prelude.{ℕ, ◌+◌, ◌*◌, ◌/◌, ◌%◌, max, cond, ◌&&◌, List, Some, None, Option, nat_le, nat_lt}
use Rattle.models.specs.Automaton.{Next, bind, Model, Pass}

-- two states as one number, in rows of n
abbrev pub both : ℕ → Option ℕ → Option ℕ → Option ℕ
both n o p = bind o (λ i. bind p (λ j. Some (i * n + j)))

abbrev pub pair_count : ℕ → ℕ → ℕ
pair_count m n = cond (nat_le (m * n) 4096) (m * n) 1

abbrev pub pair_start : ℕ → ℕ → ℕ → ℕ → ℕ
pair_start m n i j = cond (nat_le (m * n) 4096) (i * n + j) 0

abbrev pub pair_next : {K : Type 0} → ℕ → ℕ → Next K → Next K → Next K
pair_next m n f g q a = cond (nat_le (m * n) 4096 && nat_lt q (m * n)) (both n (f (q / n) a) (g (q % n) a)) None

abbrev pub pair_model : {K : Type 0} → Model K → Model K → Model K
pair_model u v = record {
  count = pair_count u.count v.count;
  start = pair_start u.count v.count u.start v.start;
  next = pair_next u.count v.count u.next v.next;
  memory = max u.memory v.memory;
}

abbrev pub OnlyBoth : {K : Type 0} → Model K → Model K → Model K → Type 0
OnlyBoth {K} m u v = (xs : List K) → (Pass m xs → Pass u xs × Pass v xs) × (Pass u xs × Pass v xs → Pass m xs)
