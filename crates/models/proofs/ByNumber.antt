-- An automaton over numbers, read over letters by their numbers. Assumes nothing.
use Rattle.std.proofs.Common.{◌≡◌, ℕ, ◌-◌, List, [], ◌∷◌, ◌++◌, map, length, drop, is_some, Some, None, sym, refl, ap, ◌∙◌, arith}
use Rattle.std.proofs.lemmas.List.{map-append, length-map, drop-map}
use Rattle.models.specs.Automaton.{Next, walk, bind, Passes, Parts, Forgets, last}

module _ {K : Type 0} (code : K → ℕ) (next : Next ℕ) where
  by : Next K
  by q x = next q (code x)

  pub walk-by : (q : ℕ) (xs : List K) → walk (λ q x. next q (code x)) q xs ≡ walk next q (map code xs)
  walk-by q [] = refl
  walk-by q (x ∷ xs) =
      elim (next q (code x)) as (λ o. bind o (λ t. walk (λ q x. next q (code x)) t xs) ≡ bind o (λ t. walk next t (map code xs))) [ Some t ↦ walk-by t xs | None ↦ refl ]

  pub parts-by : (q : ℕ) → Parts next q → Parts (λ q x. next q (code x)) q
  parts-by q p xs ys zs h =
      let cut : map code (xs ++ (ys ++ zs)) ≡ map code xs ++ (map code ys ++ map code zs) = map-append code xs (ys ++ zs) ∙ ap (λ r. map code xs ++ r) (map-append code ys zs) in
      let whole : Passes next q (map code xs ++ (map code ys ++ map code zs)) = ap (λ r. is_some (walk next q r)) (sym cut) ∙ ap is_some (sym (walk-by q (xs ++ (ys ++ zs)))) ∙ h in
      ap is_some (walk-by q ys) ∙ p (map code xs) (map code ys) (map code zs) whole

  pub forgets-by : (q m : ℕ) → Forgets next q m → Forgets (λ q x. next q (code x)) q m
  forgets-by q m f xs ys p r a b e =
      let lx = length-map xs code in
      let ly = length-map ys code in
      let tail : (zs : List K) → last m (map code zs) ≡ map code (last m zs) = λ zs. ap (λ n. drop (n - m) (map code zs)) (length-map zs code) ∙ drop-map code (length zs - m) zs in
      walk-by q xs ∙ f (map code xs) (map code ys) (ap is_some (sym (walk-by q xs)) ∙ p) (ap is_some (sym (walk-by q ys)) ∙ r) (omega arith) (omega arith) (tail xs ∙ ap (map code) e ∙ sym (tail ys)) ∙ sym (walk-by q ys)
