-- The strict order of words: shorter first, then by letters. Assumes nothing.
use Rattle.std.proofs.Common.{◌≡◌, ℕ, ◌<◌, ◌⊎◌, List, [], ◌∷◌, ◌++◌, map, length, sym, refl, ap, ◌∙◌, subst, inl, inr, ⊎_elim, arith}
use Rattle.std.proofs.lemmas.List.{length_push, length-map}
use Rattle.models.specs.Strings.{Before, Leads}

abbrev pub LexLt : List ℕ → List ℕ → Type 0
LexLt [] ys = ⊥
LexLt (x ∷ xs) [] = ⊥
LexLt (x ∷ xs) (y ∷ ys) = (x < y) ⊎ ((x ≡ y) × LexLt xs ys)

abbrev pub Lt : List ℕ → List ℕ → Type 0
Lt x y = (length x < length y) ⊎ ((length x ≡ length y) × LexLt x y)

abbrev pub Le : List ℕ → List ℕ → Type 0
Le x y = Lt x y ⊎ (x ≡ y)

lex_more : (x y u v : List ℕ) → LexLt x y → LexLt (x ++ u) (y ++ v)
lex_more [] y u v h = absurd h
lex_more (a ∷ x) [] u v h = absurd h
lex_more (a ∷ x) (b ∷ y) u v h = ⊎_elim inl (λ e. inr (e.0, lex_more x y u v e.1)) h

lex_letter : (x : List ℕ) (a b : ℕ) → a < b → LexLt (x ++ (a ∷ [])) (x ++ (b ∷ []))
lex_letter [] a b h = inl h
lex_letter (c ∷ x) a b h = inr (refl, lex_letter x a b h)

lex_trans : (x y z : List ℕ) → LexLt x y → LexLt y z → LexLt x z
lex_trans [] y z h k = absurd h
lex_trans (a ∷ x) [] z h k = absurd h
lex_trans (a ∷ x) (b ∷ y) [] h k = absurd k
lex_trans (a ∷ x) (b ∷ y) (c ∷ z) h k = ⊎_elim
    (λ p. ⊎_elim (λ q. inl (omega arith)) (λ q. let e = q.0 in inl (omega arith)) k)
    (λ p. let d = p.0 in ⊎_elim (λ q. inl (omega arith)) (λ q. inr (p.0 ∙ q.0, lex_trans x y z p.1 q.1)) k)
    h

pub lt_push : (x y : List ℕ) (a b : ℕ) → Lt x y → Lt (x ++ (a ∷ [])) (y ++ (b ∷ []))
lt_push x y a b h =
    let m = length_push x a in
    let n = length_push y b in
    ⊎_elim (λ p. inl (omega arith)) (λ p. let e = p.0 in inr (omega arith, lex_more x y (a ∷ []) (b ∷ []) p.1)) h

pub lt_letter : (x : List ℕ) (a b : ℕ) → a < b → Lt (x ++ (a ∷ [])) (x ++ (b ∷ []))
lt_letter x a b h = let m = length_push x a in let n = length_push x b in inr (omega arith, lex_letter x a b h)

pub le_push : (x y : List ℕ) (c : ℕ) → Le x y → Le (x ++ (c ∷ [])) (y ++ (c ∷ []))
le_push x y c h = ⊎_elim (λ p. inl (lt_push x y c c p)) (λ e. inr (ap (λ v. v ++ (c ∷ [])) e)) h

pub le_longer : (x : List ℕ) (c : ℕ) → Le x (x ++ (c ∷ []))
le_longer x c = let m = length_push x c in inl (inl (omega arith))

lt_trans : (x y z : List ℕ) → Lt x y → Lt y z → Lt x z
lt_trans x y z h k = ⊎_elim
    (λ p. ⊎_elim (λ q. inl (omega arith)) (λ q. let e = q.0 in inl (omega arith)) k)
    (λ p. let d = p.0 in ⊎_elim (λ q. inl (omega arith)) (λ q. inr (p.0 ∙ q.0, lex_trans x y z p.1 q.1)) k)
    h

pub le_trans : (x y z : List ℕ) → Le x y → Le y z → Le x z
le_trans x y z h k = ⊎_elim
    (λ p. ⊎_elim (λ q. inl (lt_trans x y z p q)) (λ e. inl (subst (Lt x) e p)) k)
    (λ e. subst (λ v. Le v z) (sym e) k)
    h

-- strings of letters, compared by their numbers
module _ {K : Type 0} (number : K → ℕ) where
  lex_before : (z y : List K) → LexLt (map number z) (map number y) → Before number z y
  lex_before [] y h = tt
  lex_before (a ∷ z) [] h = absurd h
  lex_before (a ∷ z) (b ∷ y) h = ⊎_elim inl (λ e. inr (e.0, lex_before z y e.1)) h

  same-before : (z y : List K) → map number z ≡ map number y → Before number z y
  same-before [] y e = tt
  same-before (a ∷ z) [] e = let q : ◌≡◌ {A = ℕ} 0 1 = cc in absurd (omega arith)
  same-before (a ∷ z) (b ∷ y) e = inr (cc, same-before z y (let r : map number z ≡ map number y = cc in r))

  pub le_leads : (z y : List K) → Le (map number z) (map number y) → Leads number z y
  le_leads z y h =
      let a = length-map z number in
      let b = length-map y number in
      ⊎_elim
      (⊎_elim (λ p. inl (omega arith)) (λ p. let e = p.0 in inr (omega arith, lex_before z y p.1)))
      (λ e. let l = ap length e in inr (omega arith, same-before z y e))
      h
