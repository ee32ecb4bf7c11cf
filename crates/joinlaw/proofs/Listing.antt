-- The first string of the listing is the least that passes the test. Assumes nothing.
use Rattle.std.proofs.Common.{◌≡◌, ℕ, zero, suc, ◌<◌, Bool, true, false, cond, List, [], ◌∷◌, ◌++◌, map, length, Some, None, Option, sym, refl, ap, ◌∙◌, subst, inl, inr, ⊎_elim, arith}
use mathlib.Core.List.Memᴰ
use mathlib.Core.List.{Memᴰ}
use Rattle.std.specs.List.{flat_map, AllByRecursion}
use Rattle.std.proofs.lemmas.Bool.{cases_lt, both_ways}
use Rattle.models.specs.Strings.{Before, Leads}
use Rattle.joinlaw.specs.Words.{Ascending, Over, words, words_below, first_that}

module _ {K : Type 0} where
  abbrev or_else : Option (List K) → Option (List K) → Option (List K)
  or_else None b = b
  or_else (Some z) b = Some z

  abbrev after : K → Option (List K) → Option (List K)
  after x None = None
  after x (Some w) = Some (x ∷ w)

  -- the strings of d + 1 letters over fill that begin with one of xs
  abbrev block : List K → ℕ → List K → List (List K)
  block fill d xs = flat_map (λ x. map (λ w. x ∷ w) (words fill d)) xs

  first-append : (test : List K → Bool) (ws vs : List (List K)) → first_that test (ws ++ vs) ≡ or_else (first_that test ws) (first_that test vs)
  first-append test [] vs = refl
  first-append test (w ∷ ws) vs = go (test w) (first-append test ws vs) where
    go : (b : Bool) → first_that test (ws ++ vs) ≡ or_else (first_that test ws) (first_that test vs) → cond b (Some w) (first_that test (ws ++ vs)) ≡ or_else (cond b (Some w) (first_that test ws)) (first_that test vs)
    go true e = refl
    go false e = e

  first-map : (test : List K → Bool) (x : K) (ws : List (List K)) → first_that test (map (λ w. x ∷ w) ws) ≡ after x (first_that (λ w. test (x ∷ w)) ws)
  first-map test x [] = refl
  first-map test x (w ∷ ws) = go (test (x ∷ w)) (first-map test x ws) where
    go : (b : Bool) → first_that test (map (λ v. x ∷ v) ws) ≡ after x (first_that (λ v. test (x ∷ v)) ws) → cond b (Some (x ∷ w)) (first_that test (map (λ v. x ∷ v) ws)) ≡ after x (cond b (Some w) (first_that (λ v. test (x ∷ v)) ws))
    go true e = refl
    go false e = e

  block_more : (fill : List K) (test : List K → Bool) (d : ℕ) (x : K) (xs : List K) → first_that test (block fill d (x ∷ xs)) ≡ or_else (after x (first_that (λ w. test (x ∷ w)) (words fill d))) (first_that test (block fill d xs))
  block_more fill test d x xs =
      first-append test (map (λ w. x ∷ w) (words fill d)) (block fill d xs)
      ∙ ap (λ o. or_else o (first_that test (block fill d xs))) (first-map test x (words fill d))

module _ {K : Type 0} (number : K → ℕ) (fill : List K) where
  -- z passes, and no other string of its length that passes stands before it
  record FirstOf (test : List K → Bool) (d : ℕ) (z : List K) : Type 0 where
    passes : test z ≡ true
    long : length z ≡ d
    over : Over fill z
    before : (y : List K) → Over fill y → length y ≡ d → test y ≡ true → Before number z y

  abbrev NoneOf : (List K → Bool) → ℕ → Type 0
  NoneOf test d = (y : List K) → Over fill y → length y ≡ d → test y ≡ true → ⊥

  -- what the first string of a listing is, or that it has none
  abbrev Told : (List K → Bool) → ℕ → Option (List K) → Type 0
  Told test d (Some z) = FirstOf test d z
  Told test d None = NoneOf test d

  -- the same of the strings that begin with one of xs
  record FirstIn (test : List K → Bool) (d : ℕ) (xs z : List K) : Type 0 where
    passes : test z ≡ true
    long : length z ≡ suc d
    over : Over fill z
    before : (x : K) (y : List K) → Memᴰ x xs → Over fill y → length y ≡ d → test (x ∷ y) ≡ true → Before number z (x ∷ y)

  abbrev ToldIn : (List K → Bool) → ℕ → List K → Option (List K) → Type 0
  ToldIn test d xs (Some z) = FirstIn test d xs z
  ToldIn test d xs None = (x : K) (y : List K) → Memᴰ x xs → Over fill y → length y ≡ d → test (x ∷ y) ≡ true → ⊥

  all-member : (P : K → Type 0) (a : K) (xs : List K) → AllByRecursion P xs → Memᴰ a xs → P a
  all-member P a [] h m = absurd (Memᴰ.not-nil m)
  all-member P a (x ∷ xs) h m = ⊎_elim (λ e. subst P (sym e) h.0) (λ r. all-member P a xs h.1 r) (Memᴰ.cases_cons m)

  told_none : (test : List K → Bool) (b : Bool) → test [] ≡ b → Told test 0 (cond b (Some []) None)
  told_none test true e = record { passes = e; long = refl; over = tt; before = λ y o l r. tt }
  told_none test false e = fails where
    fails : NoneOf test 0
    fails [] o l r = both_ways (test []) e r
    fails (x ∷ y) o l r = omega arith

  told_more : (test : List K → Bool) (d : ℕ) (x : K) (xs : List K) → Memᴰ x fill → AllByRecursion (λ y. number x < number y) xs → (o p : Option (List K)) → Told (λ w. test (x ∷ w)) d o → ToldIn test d xs p → ToldIn test d (x ∷ xs) (or_else (after x o) p)
  told_more test d x xs in-fill low (Some w) p t u = record {
    passes = t.passes;
    long = ap suc t.long;
    over = (in-fill, t.over);
    before = λ a y m o l r. ⊎_elim
        (λ e. inr (ap number (sym e), t.before y o l (ap (λ b. test (b ∷ y)) (sym e) ∙ r)))
        (λ n. inl (all-member (λ b. number x < number b) a xs low n))
        (Memᴰ.cases_cons m);
  }
  told_more test d x xs in-fill low None (Some z) t u = record {
    passes = u.passes;
    long = u.long;
    over = u.over;
    before = λ a y m o l r. ⊎_elim
        (λ e. absurd (t y o l (ap (λ b. test (b ∷ y)) (sym e) ∙ r)))
        (λ n. u.before a y n o l r)
        (Memᴰ.cases_cons m);
  }
  told_more test d x xs in-fill low None None t u =
      λ a y m o l r. ⊎_elim (λ e. t y o l (ap (λ b. test (b ∷ y)) (sym e) ∙ r)) (λ n. u a y n o l r) (Memᴰ.cases_cons m)

  told_in : (test : List K → Bool) (d : ℕ) → ((t : List K → Bool) → Told t d (first_that t (words fill d))) → (xs : List K) → Ascending number xs → Over fill xs → ToldIn test d xs (first_that test (block fill d xs))
  told_in test d below [] a o = λ x y m. absurd (Memᴰ.not-nil m)
  told_in test d below (x ∷ xs) a o =
      subst (ToldIn test d (x ∷ xs)) (sym (block_more fill test d x xs))
      (told_more test d x xs o.0 a.0 _ _ (below (λ w. test (x ∷ w))) (told_in test d below xs a.1 o.1))

  told-all : (test : List K → Bool) (d : ℕ) (o : Option (List K)) → ToldIn test d fill o → Told test (suc d) o
  told-all test d (Some z) t = record { passes = t.passes; long = t.long; over = t.over; before = before } where
    before : (y : List K) → Over fill y → length y ≡ suc d → test y ≡ true → Before number z y
    before [] o l r = absurd (omega arith)
    before (x ∷ y) o l r = t.before x y o.0 o.1 (omega arith) r
  told-all test d None t = fails where
    fails : NoneOf test (suc d)
    fails [] o l r = omega arith
    fails (x ∷ y) o l r = t x y o.0 o.1 (omega arith) r

  over_itself : (xs ys : List K) → ((a : K) → Memᴰ a xs → Memᴰ a ys) → Over ys xs
  over_itself [] ys in_ys = tt
  over_itself (x ∷ xs) ys in_ys = (in_ys x (Memᴰ.head refl), over_itself xs ys (λ a m. in_ys a (Memᴰ.tail m)))

  told : Ascending number fill → (d : ℕ) (test : List K → Bool) → Told test d (first_that test (words fill d))
  told a zero test = told_none test (test []) refl
  told a (suc d) test = told-all test d _ (told_in test d (told a d) fill a (over_itself fill fill (λ x m. m)))

  -- the first of all strings of fewer than n letters
  pub record FirstBelow (test : List K → Bool) (n : ℕ) (z : List K) : Type 0 where
    pub passes : test z ≡ true
    pub few : length z < n
    pub over : Over fill z
    pub before : (y : List K) → Over fill y → test y ≡ true → Leads number z y

  abbrev pub ToldBelow : (List K → Bool) → ℕ → Option (List K) → Type 0
  ToldBelow test n (Some z) = FirstBelow test n z
  ToldBelow test n None = (y : List K) → Over fill y → length y < n → test y ≡ true → ⊥

  told-longer : (test : List K → Bool) (n : ℕ) (o p : Option (List K)) → ToldBelow test n o → Told test n p → ToldBelow test (suc n) (or_else o p)
  told-longer test n (Some z) p t u = let l = t.few in record { passes = t.passes; few = omega arith; over = t.over; before = t.before }
  told-longer test n None (Some z) t u =
      let e = u.long in
      record {
        passes = u.passes;
        few = omega arith;
        over = u.over;
        before = λ y o r. ⊎_elim
            (λ short. absurd (t y o short r))
            (λ long. ⊎_elim
            (λ longer. inl (omega arith))
            (λ same. let l : length y ≡ n = omega arith in inr (omega arith, u.before y o l r))
            (cases_lt n (length y)))
            (cases_lt (length y) n);
      }
  told-longer test n None None t u = λ y o l r. ⊎_elim (λ short. t y o short r) (λ long. u y o (omega arith) r) (cases_lt (length y) n)

  pub told_below : Ascending number fill → (n : ℕ) (test : List K → Bool) → ToldBelow test n (first_that test (words_below fill n))
  told_below a zero test = λ y o l r. omega arith
  told_below a (suc n) test =
      subst (ToldBelow test (suc n)) (sym (first-append test (words_below fill n) (words fill n)))
      (told-longer test n _ _ (told_below a n test) (told a n test))
