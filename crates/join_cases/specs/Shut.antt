-- An automaton with one state that stops every letter, for cases. Assumes nothing.
use Rattle.std.specs.Prelude.{◌≡◌, ℕ, ◌≤◌, List, [], ◌∷◌, ◌++◌, length, None, refl}
use Rattle.std.proofs.Common.{arith, lit<, lit≤}
use Rattle.std.proofs.lemmas.Bool.{false≢true}
use Rattle.models.specs.Automaton.{Next, Model, Lawful, walk, Passes, last}

abbrev pub shut_next : {K : Type 0} → Next K
shut_next q x = None

abbrev pub shut_model : {K : Type 0} → Model K
shut_model = record { count = 1; start = 0; next = shut_next; memory = 0 }

module _ {K : Type 0} where
  parts : (xs ys zs : List K) → Passes shut_next 0 (xs ++ (ys ++ zs)) → Passes shut_next 0 ys
  parts xs [] zs p = refl
  parts [] (y ∷ ys) zs p = absurd (false≢true p)
  parts (x ∷ xs) (y ∷ ys) zs p = absurd (false≢true p)

  forgets : (xs ys : List K) → Passes shut_next 0 xs → Passes shut_next 0 ys → 0 ≤ length xs → 0 ≤ length ys → last 0 xs ≡ last 0 ys → walk shut_next 0 xs ≡ walk shut_next 0 ys
  forgets [] [] p r a b e = refl
  forgets [] (y ∷ ys) p r a b e = absurd (false≢true r)
  forgets (x ∷ xs) ys p r a b e = absurd (false≢true p)

pub shut_lawful : {K : Type 0} → Lawful (shut_model {K = K})
shut_lawful = record {
  some = lit≤ tt;
  few = lit≤ tt;
  begins = lit< tt;
  stays = λ q x t e. (let z : ◌≡◌ {A = ℕ} 0 1 = cc in absurd (omega arith));
  off = λ q x h. refl;
  parts = parts;
  forgets = forgets;
}
