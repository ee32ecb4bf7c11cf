-- The automaton of a list of patterns, from a table of its states and letters. Assumes nothing.
--
--   table_next used stop goes   the step of a table with `used` states: a stop, or where it goes
--   table_model ..   the automaton over letters that such a table makes
--   Right ps used size stop goes   the table is that of the patterns ps, for letters below size; any other letter stops
--   Kept used size stop goes kept   there are patterns whose table it is, and whose memory is kept
--   after ps w c   from the state w, the letter c stops if a pattern is a suffix of wc, else it leads to the longest suffix of wc that is a state
--   Means A m ps   m is the automaton of the patterns ps over the letters of A
use Rattle.std.specs.Prelude.{◌≡◌, ℕ, ◌<◌, ◌≤◌, Bool, true, cond, List, [], ◌∷◌, ◌++◌, length, Some, None, Option, nat_lt, slice_index_or}
use Rattle.std.specs.List.{ContainsAt as Has}
use Rattle.models.specs.Alphabet.{Alphabet}
use Rattle.models.specs.Automaton.{Next, Model, Pass}
use Rattle.models.specs.Strings.{Occurs}
use Rattle.listlaw.specs.Patterns.{Word, coded, member, states, hit, longest, memory}

abbrev pub table_next : ℕ → (ℕ → ℕ → Bool) → (ℕ → ℕ → ℕ) → Next ℕ
table_next used stop goes q a = cond (nat_lt q used) (cond (stop q a) None (Some (goes q a))) None

abbrev pub table_model : {K : Type 0} → (K → ℕ) → ℕ → (ℕ → ℕ → Bool) → (ℕ → ℕ → ℕ) → ℕ → Model K
table_model number used stop goes kept = record {
  count = used;
  start = 0;
  next = λ q x. table_next used stop goes q (number x);
  memory = kept;
}

pub record Right (ps : List Word) (used size : ℕ) (stop : ℕ → ℕ → Bool) (goes : ℕ → ℕ → ℕ) : Type 0 where
  -- the states are the distinct proper prefixes of the patterns with the empty word
  pub count : used ≡ length (states ps)
  pub solid : (p : Word) → member ps p ≡ true → 1 ≤ length p
  -- a letter stops if a pattern is a suffix of the state and the letter
  pub stops : (q a : ℕ) → q < used → a < size → stop q a ≡ hit ps (slice_index_or (states ps) q [] ++ (a ∷ []))
  pub strange : (q a : ℕ) → q < used → size ≤ a → stop q a ≡ true
  -- else it leads to the longest suffix of the state and the letter that is a state
  pub leads : (q a : ℕ) → q < used → a < size → goes q a ≡ longest (states ps) (slice_index_or (states ps) q [] ++ (a ∷ []))

abbrev pub Kept : ℕ → ℕ → (ℕ → ℕ → Bool) → (ℕ → ℕ → ℕ) → ℕ → Type 0
Kept used size stop goes kept = ∥ ((ps : List Word) × (Right ps used size stop goes × (kept ≡ memory ps))) ∥₁

abbrev pub after : List Word → Word → ℕ → Option ℕ
after ps w c = cond (hit ps (w ++ (c ∷ []))) None (Some (longest (states ps) (w ++ (c ∷ []))))

pub record Means {K : Type 0} (A : Alphabet K) (m : Model K) (ps : List (List K)) : Type 0 where
  -- its states are the distinct proper prefixes of the patterns with the empty string, where it starts
  pub count : m.count ≡ length (states (coded A ps))
  pub starts : slice_index_or (states (coded A ps)) m.start [] ≡ []
  pub steps : (q : ℕ) (x : K) → q < m.count → m.next q x ≡ after (coded A ps) (slice_index_or (states (coded A ps)) q []) (A.number x)
  pub kept : m.memory ≡ memory (coded A ps)
  -- it stops a string exactly when a pattern occurs in it
  pub passes : (xs : List K) → ((p : List K) → Has ps p → Occurs p xs → ⊥) → Pass m xs
  pub stops : (xs : List K) (p : List K) → Has ps p → Occurs p xs → Pass m xs → ⊥
