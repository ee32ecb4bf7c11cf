-- Laws of letter order and of the least string. Assumes nothing.
use Rattle.std.proofs.Common.{◌≡◌, ℕ, List, [], ◌∷◌, ◌++◌, length, refl, ap, ◌∙◌, inl, inr, ⊎_elim, arith}
use Rattle.std.proofs.lemmas.List.{length-append}
use Rattle.models.specs.Strings.{Before, Leads, Least}

module _ {K : Type 0} (number : K → ℕ) where
  pub before_same : (s : List K) → Before number s s
  before_same [] = tt
  before_same (x ∷ s) = inr (refl, before_same s)

  pub before_front : (u s t : List K) → Before number s t → Before number (u ++ s) (u ++ t)
  before_front [] s t h = h
  before_front (x ∷ u) s t h = inr (refl, before_front u s t h)

  pub before_back : (s t v : List K) → length s ≡ length t → Before number s t → Before number (s ++ v) (t ++ v)
  before_back [] [] v e h = before_same v
  before_back [] (y ∷ t) v e h = absurd (omega arith)
  before_back (x ∷ s) [] v e h = absurd h
  before_back (x ∷ s) (y ∷ t) v e h = ⊎_elim inl (λ p. inr (p.0, before_back s t v (omega arith) p.1)) h

  pub leads-same : (s : List K) → Leads number s s
  leads-same s = inr (refl, before_same s)

  pub leads_front : (u s t : List K) → Leads number s t → Leads number (u ++ s) (u ++ t)
  leads_front u s t h =
      let a = length-append u s in
      let b = length-append u t in
      ⊎_elim (λ lt. inl (omega arith)) (λ p. let e = p.0 in inr (omega arith, before_front u s t p.1)) h

  pub leads_back : (s t v : List K) → Leads number s t → Leads number (s ++ v) (t ++ v)
  leads_back s t v h =
      let a = length-append s v in
      let b = length-append t v in
      ⊎_elim (λ lt. inl (omega arith)) (λ p. let e = p.0 in inr (omega arith, before_back s t v p.0 p.1)) h

  module _ (apart : (x y : K) → number x ≡ number y → x ≡ y) where
    before_once : (s t : List K) → length s ≡ length t → Before number s t → Before number t s → s ≡ t
    before_once [] [] e h k = refl
    before_once [] (y ∷ t) e h k = absurd (omega arith)
    before_once (x ∷ s) [] e h k = absurd h
    before_once (x ∷ s) (y ∷ t) e h k = ⊎_elim
        (λ p. ⊎_elim (λ r. absurd (omega arith)) (λ r. let n = r.0 in absurd (omega arith)) k)
        (λ p. let n = p.0 in ⊎_elim
        (λ r. absurd (omega arith))
        (λ r. ap (λ z. z ∷ s) (apart x y n) ∙ ap (λ w. y ∷ w) (before_once s t (omega arith) p.1 r.1))
        k)
        h

    leads_once : (s t : List K) → Leads number s t → Leads number t s → s ≡ t
    leads_once s t h k = ⊎_elim
        (λ p. ⊎_elim (λ r. absurd (omega arith)) (λ r. let n = r.0 in absurd (omega arith)) k)
        (λ p. let n = p.0 in ⊎_elim (λ r. absurd (omega arith)) (λ r. before_once s t n p.1 r.1) k)
        h

    -- there is one least string at most
    pub least_once : (P : List K → Type 0) (s t : List K) → Least number P s → Least number P t → s ≡ t
    least_once P s t a b = leads_once s t (a.1 t b.0) (b.1 s a.0)

  pub least_as : (P Q : List K → Type 0) → ((s : List K) → P s → Q s) → ((s : List K) → Q s → P s) → (s : List K) → Least number P s → Least number Q s
  least_as P Q to from s l = (to s l.0, λ t h. l.1 t (from t h))
