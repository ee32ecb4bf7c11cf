-- How a string that ends with v is put together after t: an end of t is a beginning of v, or all of v comes after t. Assumes nothing.
use Rattle.std.proofs.Common.{◌≡◌, ℕ, suc, ◌+◌, ◌-◌, ◌≤◌, ◌⊎◌, List, [], ◌∷◌, ◌++◌, length, take, drop, sym, refl, ap, ◌∙◌, inl, inr, ⊎_elim, zero-add, arith, take-append-drop}
use Rattle.std.proofs.lemmas.List.{append_assoc, length-append, length-drop, drop-append-le, drop_at, take_at}
use Rattle.std.proofs.lemmas.Bool.{cases_lt}
use Rattle.models.specs.Automaton.{last}
use Rattle.models.specs.Strings.{Ends}

module _ {K : Type 0} where
  pub length_last : (o : ℕ) (t : List K) → o ≤ length t → length (last o t) ≡ o
  length_last o t h = length-drop (length t - o) t ∙ (let e : length t - (length t - o) ≡ o = omega arith in e)

  -- all but the last o letters, and these
  pub front_last : (o : ℕ) (t : List K) → take (length t - o) t ++ last o t ≡ t
  front_last o t = take-append-drop (length t - o) t

  drop_past : (k : ℕ) (t u : List K) → drop (length t + k) (t ++ u) ≡ drop k u
  drop_past k [] u = ap (λ n. drop n u) (zero-add k)
  drop_past k (x ∷ t) u = ap (λ n. drop n (x ∷ (t ++ u))) (let e : length (x ∷ t) + k ≡ suc (length t + k) = omega arith in e) ∙ drop_past k t u

  -- the last letters of a string are those of its end
  pub last_end : (o : ℕ) (t u : List K) → o ≤ length u → last o (t ++ u) ≡ last o u
  last_end o t u h =
      let n = length-append t u in
      ap (λ k. drop k (t ++ u)) (let e : length (t ++ u) - o ≡ length t + (length u - o) = omega arith in e) ∙ drop_past (length u - o) t u

  -- the last o letters of t are the first of v, and the row is the rest of v
  pub record Merged (t v row : List K) : Type 0 where
    pub by : ℕ
    pub some : 1 ≤ by
    pub all : by + length row ≡ length v
    pub within : by ≤ length t
    pub same : last by t ≡ take by v
    pub rest : row ≡ drop by v

  -- the row is a filling and all of v
  pub record Apart (v row : List K) : Type 0 where
    pub filling : List K
    pub is : row ≡ filling ++ v

  -- what comes after t is one or the other
  pub ends_cases : (t v row : List K) → Ends v (t ++ row) → Merged t v row ⊎ Apart v row
  ends_cases t v row (w, e) =
      let n = length-append t row in
      let k = length-append w v in
      let l = ap length e in
      ⊎_elim
      (λ lt.
      let o : ℕ = length v - length row in
      let le : o ≤ length t = omega arith in
      let at : length w ≡ length t - o = omega arith in
      let v-is : last o t ++ row ≡ v = sym (drop-append-le (length t - o) t row (omega arith)) ∙ ap (drop (length t - o)) e ∙ drop_at w v (length t - o) at in
      let long = length_last o t le in
      inl (record {
        by = o;
        some = omega arith;
        all = omega arith;
        within = le;
        same = sym (take_at (last o t) row o long) ∙ ap (take o) v-is;
        rest = sym (drop_at (last o t) row o long) ∙ ap (drop o) v-is;
      }))
      (λ ge. inr (record {
        filling = drop (length t) w;
        is = sym (drop_at t row (length t) refl) ∙ ap (drop (length t)) e ∙ drop-append-le (length t) w v (omega arith);
      }))
      (cases_lt (length row) (length v))

  pub merged_ends : (t v : List K) (o : ℕ) → last o t ≡ take o v → Ends v (t ++ drop o v)
  merged_ends t v o e = (
    take (length t - o) t,
    ap (λ w. w ++ drop o v) (sym (front_last o t))
        ∙ append_assoc (take (length t - o) t) (last o t) (drop o v)
        ∙ ap (λ w. take (length t - o) t ++ (w ++ drop o v)) e
        ∙ ap (λ w. take (length t - o) t ++ w) (take-append-drop o v),
  )

  pub apart-ends : (t v z : List K) → Ends v (t ++ (z ++ v))
  apart-ends t v z = (t ++ z, sym (append_assoc t z v))
