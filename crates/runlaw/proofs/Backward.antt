-- A walk read from its end: the list is reversed. Assumes nothing.
use Rattle.std.proofs.Common.{◌≡◌, ℕ, zero, suc, ◌-◌, ◌≤◌, true, List, [], ◌∷◌, ◌++◌, reverse, length, take, drop, replicate, is_some, Some, None, Option, sym, refl, ap, ◌∙◌, add-one, arith, length-drop, take-append-drop, take_all}
use mathlib.Core.List.{reverse-cons, reverse-append, reverse-reverse}
use Rattle.std.proofs.lemmas.List.{take-append-le, length-reverse, replicate_more}
use Rattle.models.specs.Automaton.{Next, walk, bind, last}
use Rattle.models.proofs.Walks.{walk-append}

abbrev pub rwalk : Next ℕ → ℕ → List ℕ → Option ℕ
rwalk next q [] = Some q
rwalk next q (a ∷ ys) = bind (rwalk next q ys) (λ t. next t a)

module _ (next : Next ℕ) where
  one : (o : Option ℕ) (a : ℕ) → bind o (λ t. walk next t (a ∷ [])) ≡ bind o (λ t. next t a)
  one (Some t) a = elim (next t a) as (λ p. bind p (λ u. Some u) ≡ p) [ Some u ↦ refl | None ↦ refl ]
  one None a = refl

  pub rwalk_is : (q : ℕ) (ys : List ℕ) → walk next q (reverse ys) ≡ rwalk next q ys
  rwalk_is q [] = refl
  rwalk_is q (a ∷ ys) =
      ap (walk next q) (reverse-cons a ys) ∙ walk-append next q (reverse ys) (a ∷ []) ∙ one (walk next q (reverse ys)) a ∙ ap (λ o. bind o (λ t. next t a)) (rwalk_is q ys)

  pub walk_is : (q : ℕ) (xs : List ℕ) → walk next q xs ≡ rwalk next q (reverse xs)
  walk_is q xs = ap (walk next q) (sym (reverse-reverse xs)) ∙ rwalk_is q (reverse xs)

pub some_is : (o : Option ℕ) → is_some o ≡ true → (t : ℕ) × (o ≡ Some t)
some_is (Some t) h = (t, refl)
some_is None h = let z : ◌≡◌ {A = ℕ} 0 1 = cc in absurd (omega arith)

pub take-reverse : (m : ℕ) (xs : List ℕ) → m ≤ length xs → take m (reverse xs) ≡ reverse (last m xs)
take-reverse m xs h =
    let n = length xs - m in
    let len : length (reverse (drop n xs)) ≡ m = length-reverse (drop n xs) ∙ length-drop n xs ∙ omega arith in
    let whole : reverse xs ≡ reverse (drop n xs) ++ reverse (take n xs) = ap reverse (sym (take-append-drop n xs)) ∙ reverse-append (take n xs) (drop n xs) in
    ap (take m) whole ∙ take-append-le m (reverse (drop n xs)) (reverse (take n xs)) (omega arith) ∙ take_all m (reverse (drop n xs)) (omega arith)

pub reverse-replicate : (n : ℕ) (a : ℕ) → reverse (replicate n a) ≡ replicate n a
reverse-replicate zero a = refl
reverse-replicate (suc n) a =
    reverse-cons a (replicate n a) ∙ ap (λ l. l ++ (a ∷ [])) (reverse-replicate n a) ∙ replicate_more n a ∙ ap (λ k. replicate k a) (add-one n)
