-- The walk of a pair is the walks of its two automata. Assumes nothing.
use Rattle.std.proofs.Common.{◌≡◌, ℕ, ◌+◌, ◌-◌, ◌*◌, ◌/◌, ◌%◌, ◌<◌, ◌≤◌, max, Bool, true, false, cond, ◌&&◌, ltb, leb, List, [], ◌∷◌, ◌++◌, length, drop, is_some, Some, None, Option, sym, refl, ap, ◌∙◌, ⊎_elim, mul-le-mul, arith}
use lib.Arith.{digits_lt}
use Rattle.std.proofs.lemmas.Nat.{div-mul-add, mod-mul-add}
use Rattle.std.proofs.lemmas.List.{drop-drop}
use Rattle.std.proofs.lemmas.Bool.{cases_lt, lt-ltb, le-leb, lt-leb}
use Rattle.std.proofs.lemmas.Bool.Decides.{nat_tests}
use Rattle.models.specs.Automaton.{Next, walk, bind, Passes, Parts, Forgets, last, Model, Lawful}
use Rattle.pairlaw.specs.Pairs.{both, pair_count, pair_start, pair_next, pair_model, OnlyBoth}

both-none : (n : ℕ) (o : Option ℕ) → both n o None ≡ None
both-none n (Some i) = refl
both-none n None = refl

both_some : (n : ℕ) (o p : Option ℕ) → is_some (both n o p) ≡ true → (is_some o ≡ true) × (is_some p ≡ true)
both_some n (Some i) (Some j) h = (refl, refl)
both_some n (Some i) None h = let z : ◌≡◌ {A = ℕ} 0 1 = cc in absurd (omega arith)
both_some n None p h = let z : ◌≡◌ {A = ℕ} 0 1 = cc in absurd (omega arith)

some-both : (n : ℕ) (o p : Option ℕ) → is_some o ≡ true → is_some p ≡ true → is_some (both n o p) ≡ true
some-both n (Some i) (Some j) h k = refl
some-both n (Some i) None h k = k
some-both n None p h k = h

last_less : {K : Type 0} (m k : ℕ) (xs ys : List K) → k ≤ m → m ≤ length xs → m ≤ length ys → last m xs ≡ last m ys → last k xs ≡ last k ys
last_less {K = K} m k xs ys h a b e =
    let part : (zs : List K) → m ≤ length zs → last k zs ≡ drop (m - k) (last m zs) = λ zs l. let n : length zs - k ≡ length zs - m + (m - k) = omega arith in ap (λ j. drop j zs) n ∙ sym (drop-drop (m - k) (length zs - m) zs) in
    part xs a ∙ ap (drop (m - k)) e ∙ sym (part ys b)

pub product : (m n : ℕ) → 1 ≤ m → 1 ≤ n → 1 ≤ m * n
product m n h k = let p : 1 * 1 ≤ m * n = mul-le-mul h k in p

pub some : (m n : ℕ) → 1 ≤ m → 1 ≤ n → 1 ≤ pair_count m n
some m n h k = let p = product m n h k in grind (arith, nat_tests)

pub begins : (m n i j : ℕ) → i < m → j < n → pair_start m n i j < pair_count m n
begins m n i j h k = let p : i * n + j < m * n = digits_lt h k in grind (arith, nat_tests)

module _ {K : Type 0} (m n : ℕ) (f g : Next K) (fs : (q : ℕ) (a : K) (t : ℕ) → f q a ≡ Some t → t < m) (gs : (q : ℕ) (a : K) (t : ℕ) → g q a ≡ Some t → t < n) where
  both-stays : (o p : Option ℕ) (t : ℕ) → ((u : ℕ) → o ≡ Some u → u < m) → ((u : ℕ) → p ≡ Some u → u < n) → both n o p ≡ Some t → t < m * n
  both-stays (Some i) (Some j) t h k e = let p : i * n + j < m * n = digits_lt (h i refl) (k j refl) in let q : t ≡ i * n + j = cc in omega arith
  both-stays (Some i) None t h k e = let z : ◌≡◌ {A = ℕ} 0 1 = cc in absurd (omega arith)
  both-stays None p t h k e = let z : ◌≡◌ {A = ℕ} 0 1 = cc in absurd (omega arith)

  cond_stays : (b c : Bool) (o : Option ℕ) (t : ℕ) → ((u : ℕ) → o ≡ Some u → u < m * n) → cond (b && c) o None ≡ Some t → t < cond b (m * n) 1
  cond_stays true true o t h e = h t e
  cond_stays true false o t h e = let z : ◌≡◌ {A = ℕ} 0 1 = cc in absurd (omega arith)
  cond_stays false c o t h e = let z : ◌≡◌ {A = ℕ} 0 1 = cc in absurd (omega arith)

  pub stays : (q : ℕ) (a : K) (t : ℕ) → pair_next m n f g q a ≡ Some t → t < pair_count m n
  stays q a t e =
      cond_stays (leb (m * n) 4096) (ltb q (m * n)) (both n (f (q / n) a) (g (q % n) a)) t (λ u k. both-stays (f (q / n) a) (g (q % n) a) u (fs (q / n) a) (gs (q % n) a) k) e

  module _ (fits : m * n ≤ 4096) where
    next_pair : (i j : ℕ) (a : K) → i < m → j < n → pair_next m n f g (i * n + j) a ≡ both n (f i a) (g j a)
    next_pair i j a h k =
        let t : leb (m * n) 4096 ≡ true = le-leb (m * n) 4096 fits in
        let l : ltb (i * n + j) (m * n) ≡ true = lt-ltb (i * n + j) (m * n) (digits_lt h k) in
        rw (t, l, div-mul-add i n j k, mod-mul-add i n j k)

    pub walk_pair : (xs : List K) (i j : ℕ) → i < m → j < n → walk (pair_next m n f g) (i * n + j) xs ≡ both n (walk f i xs) (walk g j xs)
    walk_pair [] i j h k = refl
    walk_pair (a ∷ xs) i j h k =
        let go = λ (t : ℕ). walk (pair_next m n f g) t xs in
        ap (λ o. bind o go) (next_pair i j a h k) ∙ elim (f i a) as (λ o. f i a ≡ o → bind (both n o (g j a)) go ≡ both n (bind o (λ t. walk f t xs)) (bind (g j a) (λ t. walk g t xs))) [
          | Some u ↦ λ e. elim (g j a) as (λ p. g j a ≡ p → bind (both n (Some u) p) go ≡ both n (walk f u xs) (bind p (λ t. walk g t xs))) [
            | Some v ↦ λ d. walk_pair xs u v (fs i a u e) (gs j a v d)
            | None ↦ λ d. sym (both-none n (walk f u xs))
          ] refl
          | None ↦ λ e. refl
        ] refl

    start_is : (i j : ℕ) → pair_start m n i j ≡ i * n + j
    start_is i j = let t : leb (m * n) 4096 ≡ true = le-leb (m * n) 4096 fits in rw t

    pub walk_start : (xs : List K) (i j : ℕ) → i < m → j < n → walk (pair_next m n f g) (pair_start m n i j) xs ≡ both n (walk f i xs) (walk g j xs)
    walk_start xs i j h k = ap (λ q. walk (pair_next m n f g) q xs) (start_is i j) ∙ walk_pair xs i j h k

    just_both : (i j : ℕ) → i < m → j < n → (xs : List K) → (Passes (pair_next m n f g) (pair_start m n i j) xs → Passes f i xs × Passes g j xs) × (Passes f i xs × Passes g j xs → Passes (pair_next m n f g) (pair_start m n i j) xs)
    just_both i j h k xs =
        (λ p. both_some n (walk f i xs) (walk g j xs) (ap is_some (sym (walk_start xs i j h k)) ∙ p), λ p. ap is_some (walk_start xs i j h k) ∙ some-both n (walk f i xs) (walk g j xs) p.0 p.1)

  module _ (over : 4096 < m * n) where
    never : (q : ℕ) (a : K) (xs : List K) → Passes (pair_next m n f g) q (a ∷ xs) → ⊥
    never q a xs p =
        let e : pair_next m n f g q a ≡ None = (let t : leb (m * n) 4096 ≡ false = lt-leb (m * n) 4096 over in rw t) in
        let s : is_some (bind (pair_next m n f g q a) (λ t. walk (pair_next m n f g) t xs)) ≡ false = ap (λ o. is_some (bind o (λ t. walk (pair_next m n f g) t xs))) e in
        let z : ◌≡◌ {A = ℕ} 0 1 = cc in omega arith

    over-parts : (q : ℕ) → Parts (pair_next m n f g) q
    over-parts q xs [] zs p = refl
    over-parts q [] (y ∷ ys) zs p = absurd (never q y (ys ++ zs) p)
    over-parts q (x ∷ xs) (y ∷ ys) zs p = absurd (never q x (xs ++ ((y ∷ ys) ++ zs)) p)

    over-forgets : (q k : ℕ) → Forgets (pair_next m n f g) q k
    over-forgets q k [] [] p r h l e = refl
    over-forgets q k [] (y ∷ ys) p r h l e = absurd (never q y ys r)
    over-forgets q k (x ∷ xs) ys p r h l e = absurd (never q x xs p)

  pub parts : (i j : ℕ) → i < m → j < n → Parts f i → Parts g j → Parts (pair_next m n f g) (pair_start m n i j)
  parts i j h k pf pg =
      ⊎_elim (λ o. over-parts o (pair_start m n i j)) (λ fits. λ xs ys zs p. let b = (just_both fits i j h k (xs ++ (ys ++ zs))).0 p in (just_both fits i j h k ys).1 (pf xs ys zs b.0, pg xs ys zs b.1)) (cases_lt 4096 (m * n))

  pub forgets : (i j a b : ℕ) → i < m → j < n → Forgets f i a → Forgets g j b → Forgets (pair_next m n f g) (pair_start m n i j) (max a b)
  forgets i j a b h k ff fg =
      ⊎_elim (λ o. over-forgets o (pair_start m n i j) (max a b)) (λ fits. λ xs ys p r u v e.
      let c = (just_both fits i j h k xs).0 p in
      let d = (just_both fits i j h k ys).0 r in
      let one : walk f i xs ≡ walk f i ys = ff xs ys c.0 d.0 (omega arith) (omega arith) (last_less (max a b) a xs ys (omega arith) u v e) in
      let two : walk g j xs ≡ walk g j ys = fg xs ys c.1 d.1 (omega arith) (omega arith) (last_less (max a b) b xs ys (omega arith) u v e) in
      walk_start fits xs i j h k ∙ ap (λ o. both n o (walk g j xs)) one ∙ ap (both n (walk f i ys)) two ∙ sym (walk_start fits ys i j h k)) (cases_lt 4096 (m * n))

off_pair : {K : Type 0} (m n : ℕ) (f g : Next K) (q : ℕ) (a : K) → pair_count m n ≤ q → pair_next m n f g q a ≡ None
off_pair m n f g q a h = grind (arith, nat_tests)

few : (m n : ℕ) → pair_count m n ≤ 4096
few m n = grind (arith, nat_tests)

pub pair_lawful : {K : Type 0} (u v : Model K) → Lawful u → Lawful v → Lawful (pair_model u v)
pair_lawful u v p q = record {
  some = some u.count v.count p.some q.some;
  few = few u.count v.count;
  begins = begins u.count v.count u.start v.start p.begins q.begins;
  stays = stays u.count v.count u.next v.next p.stays q.stays;
  off = off_pair u.count v.count u.next v.next;
  parts = parts u.count v.count u.next v.next p.stays q.stays u.start v.start p.begins q.begins p.parts q.parts;
  forgets = forgets u.count v.count u.next v.next p.stays q.stays u.start v.start u.memory v.memory p.begins q.begins p.forgets q.forgets;
}

pub only_both : {K : Type 0} (u v : Model K) → Lawful u → Lawful v → u.count * v.count ≤ 4096 → OnlyBoth (pair_model u v) u v
only_both u v p q fits =
    just_both u.count v.count u.next v.next p.stays q.stays fits u.start v.start p.begins q.begins
