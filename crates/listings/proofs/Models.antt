-- A finished list is the automaton of its patterns. Assumes nothing.
use Rattle.std.proofs.Common.{◌≡◌, ℕ, ◌≤◌, cond, List, [], length, get_or, None, sym, refl, ap, ◌∙◌, ⊎_elim, arith}
use mathlib.Core.Path.{fun_ext}
use Rattle.std.proofs.lemmas.Bool.{cases_lt, lt-ltb, le-ltb}
use Rattle.models.specs.Alphabet.{Alphabet}
use Rattle.models.specs.Automaton.{Model, Next}
use Rattle.listlaw.specs.Patterns.{coded, states}
use Rattle.listlaw.specs.Table.{after, Means}
use Rattle.lists.specs.Meaning.{listed}
use Rattle.lists.specs.declared.listed.Listed.{Listed}
use Rattle.listings.specs.Listings.{list_model}

model_of : {K : Type 0} → ℕ → ℕ → Next K → ℕ → Model K
model_of c s n k = record { count = c; start = s; next = n; memory = k }

module _ {K : Type 0} (A : Alphabet K) (m : Model K) (ps : List (List K)) (means : Means A m ps) (first : m.start ≡ 0) (off : (q : ℕ) (x : K) → m.count ≤ q → m.next q x ≡ None) where
  next_is : (q : ℕ) (x : K) → m.next q x ≡ (list_model A ps).next q x
  next_is q x =
      let n = length (states (coded A ps)) in
      ⊎_elim
      (λ h. means.steps q x (omega (arith, means.count)) ∙ sym (ap (λ b. cond b (after (coded A ps) (get_or (states (coded A ps)) q []) (A.number x)) None) (lt-ltb q n h)))
      (λ h. off q x (omega (arith, means.count)) ∙ sym (ap (λ b. cond b (after (coded A ps) (get_or (states (coded A ps)) q []) (A.number x)) None) (le-ltb q n h)))
      (cases_lt q n)

  pub means_model : m ≡ list_model A ps
  unfolding model_of
  means_model =
      ap (λ c. model_of c m.start m.next m.memory) means.count
      ∙ ap (λ s. model_of (length (states (coded A ps))) s m.next m.memory) first
      ∙ ap (λ n. model_of (length (states (coded A ps))) 0 n m.memory) (fun_ext (λ q. fun_ext (λ x. next_is q x)))
      ∙ ap (λ k. model_of (length (states (coded A ps))) 0 (list_model A ps).next k) means.kept

-- the finished list is the automaton of the patterns that it means
pub listed_is : {K : Type 0} (A : Alphabet K) (s : Listed K) (ps : List (List K)) → Means A (listed A s) ps → listed A s ≡ list_model A ps
listed_is A s ps means = means_model A (listed A s) ps means refl (λ q x h. rw (le-ltb q s.used h))
