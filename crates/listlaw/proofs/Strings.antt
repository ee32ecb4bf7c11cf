-- Strings of letters and the words of their numbers. Assumes nothing.
use Rattle.std.proofs.Common.{◌≡◌, ℕ, zero, suc, ◌<◌, ◌≤◌, true, false, List, [], ◌∷◌, ◌++◌, map, length, get_or, take, drop, sym, refl, ap, ◌∙◌, subst, ⊎_elim, arith, take-append-drop}
use Rattle.std.specs.List.{ContainsAt as Has}
use Rattle.std.proofs.lemmas.List.{map-append, take-map, drop-map, take_at, drop_at}
use Rattle.std.proofs.lemmas.Bool.{or_cases, or_left, or_right, both_ways}
use Rattle.models.specs.Alphabet.{Alphabet}
use Rattle.models.specs.Strings.{Occurs}
use Rattle.listlaw.specs.Patterns.{Word, coded, same, member}
use Rattle.listlaw.proofs.Members.{same_refl, same_eq}

-- a string that is not empty has a last letter
pub unsnoc : {X : Type 0} (l : List X) → 1 ≤ length l → (front : List X) × ((x : X) × (l ≡ front ++ (x ∷ [])))
unsnoc [] h = absurd (omega arith)
unsnoc (x ∷ []) h = ([], (x, refl))
unsnoc {X} (x ∷ y ∷ l) h = let r = unsnoc (y ∷ l) (omega arith) in (x ∷ r.0, (r.1.0, ap (λ (w : List X). x ∷ w) r.1.1))

same_head : {X : Type 0} {x y : X} {s t : List X} → x ∷ s ≡ y ∷ t → x ≡ y
same_head e = cc

same-tail : {X : Type 0} {x y : X} {s t : List X} → x ∷ s ≡ y ∷ t → s ≡ t
same-tail e = cc

module _ {K : Type 0} (f : K → ℕ) where
  map_cut : (xs : List K) (a b : Word) → map f xs ≡ a ++ b → (ys : List K) × ((zs : List K) × ((xs ≡ ys ++ zs) × (map f ys ≡ a) × (map f zs ≡ b)))
  map_cut xs a b e = (
    take (length a) xs,
    (
      drop (length a) xs,
      (
        sym (take-append-drop (length a) xs),
        sym (take-map f (length a) xs) ∙ ap (take (length a)) e ∙ take_at a b (length a) refl,
        sym (drop-map f (length a) xs) ∙ ap (drop (length a)) e ∙ drop_at a b (length a) refl,
      ),
    ),
  )

  map-apart : ((x y : K) → f x ≡ f y → x ≡ y) → (xs ys : List K) → map f xs ≡ map f ys → xs ≡ ys
  map-apart apart [] [] e = refl
  map-apart apart [] (y ∷ ys) e = let z : ◌≡◌ {A = ℕ} 0 1 = cc in absurd (omega arith)
  map-apart apart (x ∷ xs) [] e = let z : ◌≡◌ {A = ℕ} 0 1 = cc in absurd (omega arith)
  map-apart apart (x ∷ xs) (y ∷ ys) e =
      let a = apart x y (same_head e) in
      let b = map-apart apart xs ys (same-tail e) in
      cc

  pub occurs_map : (p xs : List K) → Occurs p xs → Occurs (map f p) (map f xs)
  occurs_map p xs o =
      (map f o.0, (map f o.1.0, ap (map f) o.1.1 ∙ map-append f o.0 (p ++ o.1.0) ∙ ap (λ (w : Word). map f o.0 ++ w) (map-append f p o.1.0)))

  pub occurs_unmap : ((x y : K) → f x ≡ f y → x ≡ y) → (p xs : List K) → Occurs (map f p) (map f xs) → Occurs p xs
  occurs_unmap apart p xs o =
      let first = map_cut xs o.0 (map f p ++ o.1.0) o.1.1 in
      let rest = map_cut first.1.0 (map f p) o.1.0 first.1.1.2 in
      let own : rest.0 ≡ p = map-apart apart rest.0 p rest.1.1.1 in
      (first.0, (rest.1.0, first.1.1.0 ∙ ap (λ (w : List K). first.0 ++ w) (rest.1.1.0 ∙ ap (λ (w : List K). w ++ rest.1.0) own)))

module _ {K : Type 0} (A : Alphabet K) where
  has_coded : (ps : List (List K)) (k : ℕ) (p : List K) → k < length ps → get_or ps k p ≡ p → member (coded A ps) (map A.number p) ≡ true
  has_coded [] k p h e = absurd (omega arith)
  has_coded (q ∷ ps) zero p h e =
      or_left (same (map A.number q) (map A.number p)) (member (coded A ps) (map A.number p)) (subst (λ (w : List K). same (map A.number q) (map A.number w) ≡ true) e (same_refl (map A.number q)))
  has_coded (q ∷ ps) (suc k) p h e = or_right (same (map A.number q) (map A.number p)) (member (coded A ps) (map A.number p)) (has_coded ps k p (omega arith) e)

  pub coded_has : (ps : List (List K)) (p : List K) → Has ps p → member (coded A ps) (map A.number p) ≡ true
  coded_has ps p h = has_coded ps h.0 p h.1 (h.2 p)

  pub coded-from : (ps : List (List K)) (w : Word) → member (coded A ps) w ≡ true → (p : List K) × (Has ps p × (w ≡ map A.number p))
  coded-from [] w h = absurd (both_ways false refl h)
  coded-from (q ∷ ps) w h = ⊎_elim
      (λ e. (q, ((0, omega arith, λ d. refl), sym (same_eq (map A.number q) w e))))
      (λ e. let r = coded-from ps w e in (r.0, ((suc r.1.0.0, omega (arith, r.1.0.1), λ d. r.1.0.2 d), r.1.1)))
      (or_cases (same (map A.number q) w) (member (coded A ps) w) h)
