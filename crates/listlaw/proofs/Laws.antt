-- The table of a list of patterns is a lawful automaton, and stops a string exactly when a pattern occurs in it. Assumes nothing.
use Rattle.std.proofs.Common.{◌≡◌, ℕ, ◌<◌, ◌≤◌, Bool, true, List, [], ◌∷◌, ◌++◌, map, is_some, Some, None, Option, sym, refl, ap, ◌∙◌, subst, arith}
use mathlib.Core.Bool.{Bool-set}
use mathlib.Core.Logic.{∥∥₁_elim}
use native.Mathlib.Nat.{ℕ_set}
use native.Mathlib.Bridge.{le_prop}
use Rattle.std.proofs.lemmas.Bool.{le-ltb}
use Rattle.models.specs.Alphabet.{Alphabet, Numbered}
use Rattle.models.specs.Automaton.{walk, Parts, Forgets, Lawful}
use Rattle.models.specs.Strings.{Occurs}
use Rattle.models.proofs.ByNumber.{walk-by, parts-by, forgets-by}
use Rattle.listlaw.specs.Patterns.{Word, coded, memory}
use Rattle.listlaw.specs.Table.{table_next, table_model, Right, Kept, Means}
use Rattle.listlaw.proofs.States.{states-first, states-some}
use Rattle.listlaw.proofs.Strings.{occurs_map, occurs_unmap, coded_has, coded-from}
use Rattle.listlaw.proofs.Passing as passing

some_is : (o : Option ℕ) → is_some o ≡ true → (t : ℕ) × (o ≡ Some t)
some_is (Some t) h = (t, refl)
some_is None h = let z : ◌≡◌ {A = ℕ} 0 1 = cc in absurd (omega arith)

same_some : {t u : ℕ} → Some t ≡ Some u → t ≡ u
same_some e = cc

module _ (used size : ℕ) (stop : ℕ → ℕ → Bool) (goes : ℕ → ℕ → ℕ) (kept : ℕ) (built : Kept used size stop goes kept) where
  parts_of : Parts (table_next used stop goes) 0
  parts_of xs ys zs p = ∥∥₁_elim built (Bool-set _ _) (λ b. passing.parts b.0 used size stop goes b.1.0 xs ys zs p)

  forgets_of : Forgets (table_next used stop goes) 0 kept
  forgets_of xs ys p q h k e =
      let s = some_is (walk (table_next used stop goes) 0 xs) p in
      let t = some_is (walk (table_next used stop goes) 0 ys) q in
      let same : s.0 ≡ t.0 = ∥∥₁_elim built (ℕ_set _ _) (λ b.
      let f : Forgets (table_next used stop goes) 0 kept = subst (Forgets (table_next used stop goes) 0) (sym b.1.1) (passing.forgets b.0 used size stop goes b.1.0) in
      same_some (sym s.1 ∙ f xs ys p q h k e ∙ t.1)) in
      s.1 ∙ ap Some same ∙ sym t.1

  stays_of : (q a t : ℕ) → table_next used stop goes q a ≡ Some t → t < used
  stays_of q a t e = ∥∥₁_elim built le_prop (λ b. passing.stays b.0 used size stop goes b.1.0 q a t e)

  some_of : 1 ≤ used
  some_of = ∥∥₁_elim built le_prop (λ b. omega (arith, b.1.0.count, states-some b.0))

  pub table-lawful : {K : Type 0} (number : K → ℕ) → used ≤ 4096 → Lawful (table_model number used stop goes kept)
  table-lawful number few = record {
    some = some_of;
    few = few;
    begins = some_of;
    stays = λ q a t e. stays_of q (number a) t e;
    off = λ q a h. rw (le-ltb q used h);
    parts = parts-by number (table_next used stop goes) 0 parts_of;
    forgets = forgets-by number (table_next used stop goes) 0 kept forgets_of;
  }

-- a letter of a string over A has a number below the size of A
small : {K : Type 0} (A : Alphabet K) → Numbered A → (xs : List K) (u : Word) (c : ℕ) (v : Word) → map A.number xs ≡ u ++ (c ∷ v) → c < A.size
small A n [] [] c v e = let z : ◌≡◌ {A = ℕ} 0 1 = cc in absurd (omega arith)
small A n [] (x ∷ u) c v e = let z : ◌≡◌ {A = ℕ} 0 1 = cc in absurd (omega arith)
small A n (y ∷ xs) [] c v e = let is : A.number y ≡ c = cc in omega (arith, is, n.below y)
small {K} A n (y ∷ xs) (x ∷ u) c v e = small A n xs u c v (tail e)
  where
    tail : {s t : Word} {a b : ℕ} → a ∷ s ≡ b ∷ t → s ≡ t
    tail e = cc

pub table_means : {K : Type 0} (A : Alphabet K) → Numbered A → (ps : List (List K)) (used size : ℕ) (stop : ℕ → ℕ → Bool) (goes : ℕ → ℕ → ℕ) (kept : ℕ) → A.size ≤ size → Right (coded A ps) used size stop goes → kept ≡ memory (coded A ps) → Means A (table_model A.number used stop goes kept) ps
table_means {K} A n ps used size stop goes kept wide right m = record {
  count = right.count;
  starts = states-first (coded A ps);
  steps = λ q x h. passing.next_is (coded A ps) used size stop goes right q (A.number x) h (omega (arith, n.below x));
  kept = m;
  passes = λ xs free. ap is_some (walk-by A.number (table_next used stop goes) 0 xs) ∙ passing.free_pass (coded A ps) used size stop goes right (map A.number xs) (λ u c v e. omega (arith, small A n xs u c v e)) (λ w has o.
      let f = coded-from A ps w has in
      free f.0 f.1.0 (occurs_unmap A.number n.apart f.0 xs (subst (λ (v : Word). Occurs v (map A.number xs)) f.1.1 o)));
  stops = λ xs p has o pass. passing.pass_free (coded A ps) used size stop goes right (map A.number xs) (ap is_some (sym (walk-by A.number (table_next used stop goes) 0 xs)) ∙ pass) (map A.number p) (coded_has A ps p has) (occurs_map A.number p xs o);
}
