-- What the run automaton keeps of a string: its last letter and how often that stands at the end. Assumes nothing.
use Rattle.std.proofs.Common.{◌≡◌, ℕ, zero, suc, ◌+◌, ◌*◌, ◌<◌, ◌≤◌, min, Bool, true, false, cond, ◌&&◌, eqb, ltb, List, [], ◌∷◌, ◌++◌, reverse, take, is_some, Some, None, sym, refl, ap, ◌∙◌, subst, ⊎_elim, mul-le-mul_right, suc-mul, mul_comm, mul-le-mul, arith}
use mathlib.Core.List.{reverse-append}
use Rattle.std.proofs.lemmas.Bool.Decides.{nat_tests}
use Rattle.std.proofs.lemmas.Bool.{cases_order, cases_lt, and_parts, ltb-true, lt-ltb, and_from, eq-eqb, ne_eqb}
use Rattle.models.specs.Automaton.{walk, bind, Passes, Parts, Forgets}
use Rattle.runlaw.specs.Runs.{run_next}
use Rattle.runlaw.proofs.Backward.{rwalk, walk_is, some_is, take-reverse}

-- how often a stands at the front
abbrev pub lead : ℕ → List ℕ → ℕ
lead a [] = 0
lead a (x ∷ xs) = cond (eqb x a) (suc (lead a xs)) 0

abbrev pub state : ℕ → List ℕ → ℕ
state r [] = 0
state r (a ∷ ys) = a * r + suc (lead a ys)

abbrev pub Fine : ℕ → ℕ → List ℕ → Type 0
Fine r c [] = Unit {0}
Fine r c (a ∷ ys) = (a < c) × (lead a ys < r) × Fine r c ys

-- the rows of two letters do not meet
pub rows : (r a b : ℕ) → a < b → a * r + r ≤ b * r
rows r a b h = let e = suc-mul a r in let m : suc a * r ≤ b * r = mul-le-mul_right r h in omega arith

pub few : (r c : ℕ) → r ≤ 8 → c ≤ 32 → 1 + r * c ≤ 4096
few r c h k = let m : r * c ≤ 8 * 32 = mul-le-mul h k in omega arith

pub stays : (r c q a t : ℕ) → 1 ≤ r → run_next r c q a ≡ Some t → t < 1 + r * c
stays r c q a t l h = ⊎_elim (λ k. let m : a * r + r ≤ c * r = rows r a c k in let e = mul_comm c r in grind (arith, nat_tests)) (λ k. grind (arith, nat_tests)) (cases_lt a c)

-- the step, by the letter and the length of the run
next_num : (r c a b k d : ℕ) → 1 ≤ r → b < c → k < r → (a ≡ b → d ≡ suc k) → ((a ≡ b → ⊥) → d ≡ 0) → run_next r c (b * r + suc k) a ≡ cond (ltb a c && ltb d r) (Some (a * r + suc d)) None
next_num r c a b k d l h j same other =
    let top : b * r + r ≤ c * r = rows r b c h in
    let e = mul_comm c r in
    ⊎_elim (λ s. let p : a * r ≡ b * r = ap (λ x. x * r) s in let n = same s in grind (arith, nat_tests)) (⊎_elim (λ s. let m = rows r a b s in let n : d ≡ 0 = other (λ z. omega arith) in grind (arith, nat_tests)) (λ s. let m = rows r b a s in let n : d ≡ 0 = other (λ z. omega arith) in grind (arith, nat_tests))) (cases_order a b)

next-none : (r c a : ℕ) → 1 ≤ r → run_next r c 0 a ≡ cond (ltb a c && ltb 0 r) (Some (a * r + 1)) None
next-none r c a l = grind (arith, nat_tests)

lead-same : (a b : ℕ) (zs : List ℕ) → a ≡ b → lead a (b ∷ zs) ≡ suc (lead b zs)
lead-same a b zs h = let e : eqb b b ≡ true = eq-eqb b b refl in ap (λ x. lead x (b ∷ zs)) h ∙ rw e

lead_other : (a b : ℕ) (zs : List ℕ) → (a ≡ b → ⊥) → lead a (b ∷ zs) ≡ 0
lead_other a b zs h = let e : eqb b a ≡ false = ne_eqb b a (λ z. h (sym z)) in rw e

pub next-at : (r c : ℕ) (ys : List ℕ) (a : ℕ) → 1 ≤ r → Fine r c ys → run_next r c (state r ys) a ≡ cond (ltb a c && ltb (lead a ys) r) (Some (state r (a ∷ ys))) None
next-at r c [] a l f = next-none r c a l
next-at r c (b ∷ zs) a l f =
    next_num r c a b (lead b zs) (lead a (b ∷ zs)) l f.0 f.1 (lead-same a b zs) (lead_other a b zs)

cond_some : (b : Bool) (s t : ℕ) → cond b (Some s) None ≡ Some t → (b ≡ true) × (t ≡ s)
cond_some true s t h = (refl, cc)
cond_some false s t h = let z : ◌≡◌ {A = ℕ} 0 1 = cc in absurd (omega arith)

module _ (r c : ℕ) (l : 1 ≤ r) where
  -- a walk that comes through is fine, and ends in the state of its string
  pub passed : (ys : List ℕ) (t : ℕ) → rwalk (run_next r c) 0 ys ≡ Some t → Fine r c ys × (t ≡ state r ys)
  passed [] t h = (tt, cc)
  passed (a ∷ ys) t h =
      elim (rwalk (run_next r c) 0 ys) as (λ o. rwalk (run_next r c) 0 ys ≡ o → bind o (λ u. run_next r c u a) ≡ Some t → Fine r c (a ∷ ys) × (t ≡ state r (a ∷ ys))) [
        | Some u ↦ λ e k.
            let before = passed ys u e in
            let told = cond_some (ltb a c && ltb (lead a ys) r) (state r (a ∷ ys)) t (sym (next-at r c ys a l before.0) ∙ ap (λ q. run_next r c q a) (sym before.1) ∙ k) in
            let both = and_parts (ltb a c) (ltb (lead a ys) r) told.0 in
            ((ltb-true a c both.0, ltb-true (lead a ys) r both.1, before.0), told.1)
        | None ↦ λ e k. let z : ◌≡◌ {A = ℕ} 0 1 = cc in absurd (omega arith)
      ] refl h

  -- and a fine string comes through
  pub comes : (ys : List ℕ) → Fine r c ys → rwalk (run_next r c) 0 ys ≡ Some (state r ys)
  comes [] f = refl
  comes (a ∷ ys) f =
      ap (λ o. bind o (λ t. run_next r c t a)) (comes ys f.2) ∙ next-at r c ys a l f.2 ∙ ap (λ b. cond b (Some (state r (a ∷ ys))) None) (and_from (ltb a c) (ltb (lead a ys) r) (lt-ltb a c f.0) (lt-ltb (lead a ys) r f.1))

  pub fine_from_passes : (xs : List ℕ) → Passes (run_next r c) 0 xs → Fine r c (reverse xs)
  fine_from_passes xs p =
      let s = some_is (walk (run_next r c) 0 xs) p in
      (passed (reverse xs) s.0 (sym (walk_is (run_next r c) 0 xs) ∙ s.1)).0

  pub walk_fine : (xs : List ℕ) → Fine r c (reverse xs) → walk (run_next r c) 0 xs ≡ Some (state r (reverse xs))
  walk_fine xs f = walk_is (run_next r c) 0 xs ∙ comes (reverse xs) f

  pub passes_from_fine : (xs : List ℕ) → Fine r c (reverse xs) → Passes (run_next r c) 0 xs
  passes_from_fine xs f = ap is_some (walk_fine xs f)

lead_front : (a : ℕ) (us vs : List ℕ) → lead a us ≤ lead a (us ++ vs)
lead_front a [] vs = omega arith
lead_front a (x ∷ us) vs =
    elim (eqb x a) as (λ b. cond b (suc (lead a us)) 0 ≤ cond b (suc (lead a (us ++ vs))) 0) [ true ↦ omega (arith, lead_front a us vs) | false ↦ omega arith ]

fine_front : (r c : ℕ) (us vs : List ℕ) → Fine r c (us ++ vs) → Fine r c us
fine_front r c [] vs f = tt
fine_front r c (x ∷ us) vs f = (f.0, omega (arith, lead_front x us vs, f.1), fine_front r c us vs f.2)

fine_back : (r c : ℕ) (us vs : List ℕ) → Fine r c (us ++ vs) → Fine r c vs
fine_back r c [] vs f = f
fine_back r c (x ∷ us) vs f = fine_back r c us vs f.2

pub parts : (r c : ℕ) → 1 ≤ r → Parts (run_next r c) 0
parts r c l xs ys zs p =
    let f = fine_from_passes r c l (xs ++ (ys ++ zs)) p in
    let split : reverse (xs ++ (ys ++ zs)) ≡ (reverse zs ++ reverse ys) ++ reverse xs = reverse-append xs (ys ++ zs) ∙ ap (λ w. w ++ reverse xs) (reverse-append ys zs) in
    let g : Fine r c ((reverse zs ++ reverse ys) ++ reverse xs) = subst (Fine r c) split f in
    passes_from_fine r c l ys (fine_back r c (reverse zs) (reverse ys) (fine_front r c (reverse zs ++ reverse ys) (reverse xs) g))

lead-take : (n a : ℕ) (xs : List ℕ) → lead a (take n xs) ≡ min n (lead a xs)
lead-take zero a xs = omega arith
lead-take (suc n) a [] = omega arith
lead-take (suc n) a (x ∷ xs) =
    elim (eqb x a) as (λ b. cond b (suc (lead a (take n xs))) 0 ≡ min (suc n) (cond b (suc (lead a xs)) 0)) [ true ↦ omega (arith, lead-take n a xs) | false ↦ omega arith ]

-- the first n letters tell the state
state-take : (r c n : ℕ) (ys : List ℕ) → 1 ≤ n → r ≤ n → Fine r c ys → state r (take n ys) ≡ state r ys
state-take r c zero ys l h f = absurd (omega arith)
state-take r c (suc n) [] l h f = refl
state-take r c (suc n) (a ∷ ys) l h f =
    let e : lead a (take n ys) ≡ lead a ys = omega (arith, lead-take n a ys, f.1) in
    ap (λ k. a * r + suc k) e

pub forgets : (r c : ℕ) → 1 ≤ r → Forgets (run_next r c) 0 r
forgets r c l xs ys p q h k e =
    let f = fine_from_passes r c l xs p in
    let g = fine_from_passes r c l ys q in
    let tops : take r (reverse xs) ≡ take r (reverse ys) = take-reverse r xs h ∙ ap reverse e ∙ sym (take-reverse r ys k) in
    let same : state r (reverse xs) ≡ state r (reverse ys) = sym (state-take r c r (reverse xs) l (omega arith) f) ∙ ap (state r) tops ∙ state-take r c r (reverse ys) l (omega arith) g in
    walk_fine r c l xs f ∙ ap Some same ∙ sym (walk_fine r c l ys g)
