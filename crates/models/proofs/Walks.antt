-- Laws of walks. Assumes nothing.
use Rattle.std.proofs.Common.{◌≡◌, ℕ, suc, ◌+◌, ◌<◌, List, [], ◌∷◌, ◌++◌, length, get_or, take, drop, Some, None, Option, sym, refl, ap, ◌∙◌, add-one, arith, take-append-drop}
use Rattle.std.proofs.lemmas.List.{take_more, drop_more, length-take-le}
use Rattle.models.specs.Automaton.{Next, walk, bind, stops, stop_or, later}

module _ {K : Type 0} (next : Next K) where
  pub walk-append : (q : ℕ) (xs ys : List K) → walk next q (xs ++ ys) ≡ bind (walk next q xs) (λ t. walk next t ys)
  walk-append q [] ys = refl
  walk-append q (a ∷ xs) ys =
      elim (next q a) as (λ o. bind o (λ t. walk next t (xs ++ ys)) ≡ bind (bind o (λ t. walk next t xs)) (λ t. walk next t ys)) [ Some t ↦ walk-append t xs ys | None ↦ refl ]

  -- one letter more
  pub walk_step : (q t : ℕ) (xs : List K) (a : K) → walk next q xs ≡ Some t → walk next q (xs ++ (a ∷ [])) ≡ next t a
  walk_step q t xs a h = walk-append q xs (a ∷ []) ∙ ap (λ o. bind o (λ u. walk next u (a ∷ []))) h ∙ one (next t a)
    where
      one : (o : Option ℕ) → bind o (λ t. Some t) ≡ o
      one (Some t) = refl
      one None = refl

  -- and none where a step stops
  pub walk_none : (q t : ℕ) (xs : List K) (a : K) (ys : List K) → walk next q xs ≡ Some t → next t a ≡ None → walk next q (xs ++ (a ∷ ys)) ≡ None
  walk_none q t xs a ys h k = walk-append q xs (a ∷ ys) ∙ ap (λ o. bind o (λ u. walk next u (a ∷ ys))) h ∙ ap (λ o. bind o (λ u. walk next u ys)) k

  -- a walk that comes through is not stops
  pub stops-none : (q t : ℕ) (xs : List K) → walk next q xs ≡ Some t → stops next q xs ≡ None
  stops-none q t [] h = refl
  stops-none q t (a ∷ xs) h =
      elim (next q a) as (λ o. bind o (λ u. walk next u xs) ≡ Some t → stop_or o (λ u. stops next u xs) ≡ None) [ Some u ↦ λ e. ap later (stops-none u t xs e) | None ↦ λ e. cc ] h

  -- a walk of the letters before, and then a stop
  pub stops_at : (q t : ℕ) (xs : List K) (a : K) (ys : List K) → walk next q xs ≡ Some t → next t a ≡ None → stops next q (xs ++ (a ∷ ys)) ≡ Some (length xs)
  stops_at q t [] a ys h k =
      let same : q ≡ t = cc in
      let e : next q a ≡ None = ap (λ u. next u a) same ∙ k in
      rw e
  stops_at q t (x ∷ xs) a ys h k =
      elim (next q x) as (λ o. bind o (λ u. walk next u xs) ≡ Some t → stop_or o (λ u. stops next u (xs ++ (a ∷ ys))) ≡ Some (suc (length xs))) [ Some u ↦ λ e. ap later (stops_at u t xs a ys e k) ∙ ap Some (add-one (length xs)) | None ↦ λ e. cc ] h

module _ {K : Type 0} (next : Next K) (q : ℕ) (xs : List K) (i : ℕ) (x : K) (t : ℕ) (l : i < length xs) (read : x ≡ get_or xs i x) (before : walk next q (take i xs) ≡ Some t) where
  -- the step of the loop
  pub walk_more : walk next q (take (i + 1) xs) ≡ next t x
  walk_more = rw (take_more xs i x l, ← read) (walk_step next q t (take i xs) x before)

  whole : xs ≡ take i xs ++ (x ∷ drop (i + 1) xs)
  whole = sym (take-append-drop i xs) ∙ ap (λ r. take i xs ++ r) (drop_more xs i x l ∙ ap (λ y. y ∷ drop (i + 1) xs) (sym read))

  pub stops-here : next t x ≡ None → stops next q xs ≡ Some i
  stops-here h = ap (stops next q) whole ∙ stops_at next q t (take i xs) x _ before h ∙ ap Some (length-take-le i xs (omega arith))

  pub ends-here : next t x ≡ None → walk next q xs ≡ None
  ends-here h = ap (walk next q) whole ∙ walk_none next q t (take i xs) x _ before h
