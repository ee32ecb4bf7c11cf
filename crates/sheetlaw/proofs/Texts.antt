-- A text made of least rows is a shortest string that has its windows in order. Assumes nothing.
--
--   Built o ws t   t is the text of the kept windows ws, of which o is the last
use Rattle.std.proofs.Common.{◌≡◌, ℕ, ◌+◌, ◌-◌, ◌<◌, ◌≤◌, List, [], ◌∷◌, ◌++◌, length, Some, None, Option, sym, refl, ap, ◌∙◌, subst, inl, inr, append_assoc, append-nil, arith, length-append}
use Rattle.std.proofs.ByRecursion.{All-push, All-weaker}
use Rattle.std.specs.List.{AllByRecursion}
use Rattle.models.specs.Automaton.{Model, Lawful, Pass}
use Rattle.models.specs.Strings.{Ends, Before, Leads, Least}
use Rattle.sheetlaw.specs.Rivals.{At, Has, Rival}
use Rattle.joinlaw.specs.Laws.{Continues}
use Rattle.sheetlaw.specs.Rows.{Meet, Rows}
use Rattle.sheetlaw.specs.Step.{row_to}
use Rattle.sheetlaw.proofs.Passing.{at_fits, goes_on, between}
use Rattle.sheetlaw.proofs.Places.{Within, at-put, rises_last, within-last, rises_push, within_push, within_more}

before_itself : {K : Type 0} (number : K → ℕ) (s : List K) → Before number s s
before_itself number [] = tt
before_itself number (x ∷ s) = inr (refl, before_itself number s)

least_short : {K : Type 0} (number : K → ℕ) (P : List K → Type 0) (s t : List K) → Least number P s → P t → length s ≤ length t
least_short number P s t l p = elim (l.1 t p) [ inl h ↦ omega arith | inr h ↦ omega (arith, h.0) ]

module _ {K : Type 0} (m : Model K) (k : ℕ) where
  -- after the windows us and then w: the text t passes and ends with w, where the last of them stands, and each passing string has them in no less
  pub record StandsLast (us : List (List K)) (w t : List K) : Type 0 where
    pub passes : Pass m t
    pub whole : length w ≡ k
    pub front : List K
    pub ends : t ≡ front ++ w
    pub before : Within t 0 (length front) us
    pub sized : AllByRecursion (λ u. length u ≡ k) us
    pub low : (s : List K) (p : ℕ) → Pass m s → At w p s → Within s 0 p us → length t ≤ p + k

  abbrev pub Built : Option (List K) → List (List K) → List K → Type 0
  Built None ws t = (ws ≡ []) × (t ≡ [])
  Built (Some w) ws t = (us : List (List K)) × (ws ≡ us ++ w ∷ []) × StandsLast us w t

module _ {K : Type 0} (m : Model K) (laws : Lawful m) (k : ℕ) (some : 2 ≤ k) (recalls : m.memory ≤ k) where
  -- each passing string that has the windows and then w gives a row from the text to w
  pub row_from : (o : Option (List K)) (ws : List (List K)) (t w s : List K) (q : ℕ) → Built m k o ws t → length w ≡ k → Pass m w → Pass m s → At w q s → Within s 0 q ws
      → (r : List K) × Continues m t w r × (length t + length r ≤ q + k)
  row_from None ws t w s q (e, f) l pw ps aw i = (w, (omega arith, rw f pw, ([], rw f)), simp f (omega arith))
  row_from (Some u) ws t w s q (us, e, b) l pw ps aw i =
      let g = within-last s 0 q us u (subst (λ v. Within s 0 q v) e i) in
      let p = g.0 in
      let lu : length u ≡ k = b.whole in
      let aw' : At w (p + (q - p)) s = subst (λ (j : ℕ). At w j s) (omega (arith, g.2)) aw in
      let h : m.memory ≤ length u = omega arith in
      let c = between m laws s u w p (q - p) (omega arith) (omega arith) ps g.4 aw' in
      let r = c.0 in
      let a = b.front in
      let on : Pass m (t ++ r) = rw b.ends (goes_on m laws a u r h (rw b.ends at b.passes) c.2) in
      let ends : Ends w (t ++ r) = (a ++ c.3.0, ap (λ y. y ++ r) b.ends ∙ append_assoc a u r ∙ ap (λ y. a ++ y) c.3.1 ∙ sym (append_assoc a c.3.0 w)) in
      (r, (omega (arith, c.1, g.2), on, ends), omega (arith, b.low s p ps g.4 g.3, c.1, g.2))

  -- the windows stand in the text with its new row, before the new window
  placed : (o : Option (List K)) (ws : List (List K)) (t w r : List K) → Built m k o ws t → length w ≡ k → (f : Continues m t w r)
      → Within (t ++ r) 0 (length f.2.0) ws × AllByRecursion (λ u. length u ≡ k) ws
  placed None ws t w r (e, _) l f = rw e (tt, tt)
  placed (Some u) ws t w r (us, e, b) l f =
      let lu : length u ≡ k = b.whole in
      let n : length t + length r ≡ length f.2.0 + length w = sym (length-append t r) ∙ ap length f.2.1 ∙ length-append f.2.0 w in
      let n' : length t ≡ length b.front + length u = ap length b.ends ∙ length-append b.front u in
      let here : At u (length b.front) (t ++ r) = rw b.ends (at-put b.front u r) in
      let some-letters : AllByRecursion (λ v. 0 < length v) us = All-weaker (λ v. length v ≡ k) (λ v. 0 < length v) (λ v x. omega arith) us b.sized in
      rw e (
        within_push (t ++ r) 0 (length f.2.0) (length b.front) us u (omega arith) (omega (arith, f.0)) (within_more t r 0 (length b.front) us some-letters b.before) here,
        All-push (λ v. length v ≡ k) us u b.sized lu,
      )

  -- the text with a shortest row is the text of the windows with one more
  pub built_more : (number : K → ℕ) (o : Option (List K)) (ws : List (List K)) (t w r : List K) → Built m k o ws t → length w ≡ k → Pass m w → Least number (Continues m t w) r
      → Built m k (Some w) (ws ++ w ∷ []) (t ++ r)
  built_more number o ws t w r b l pw least =
      let f = least.0 in
      let p = placed o ws t w r b l f in (
        ws,
        refl,
        record {
          passes = f.1;
          whole = l;
          front = f.2.0;
          ends = f.2.1;
          before = p.0;
          sized = p.1;
          low = λ s q ps aw i.
              let g = row_from o ws t w s q b l pw ps aw i in
              omega (arith, length-append t r, least_short number (Continues m t w) r g.0 least g.1, g.2);
        },
      )

  pub shortest : (o : Option (List K)) (ws : List (List K)) (t : List K) → Built m k o ws t → Rival m ws t × ((s : List K) → Rival m ws s → length t ≤ length s)
  shortest None ws t (e, f) = ((rw f refl, rw e tt), λ s c. simp f (omega arith))
  shortest (Some w) ws t (us, e, b) =
      let lw : length w ≡ k = b.whole in
      let here : At w (length b.front) t = rw b.ends (rw append-nil at (at-put b.front w [])) in (
        (b.passes, rw e (rises_push t 0 (length b.front) us w (omega arith) b.before here)),
        λ s c.
            let g = rises_last s 0 us w (subst (λ v. Has v s) e c.1) in
            omega (arith, b.low s g.0 c.0 g.3 g.2, at_fits w s g.0 (omega arith) g.3),
      )

  module _ (number : K → ℕ) (row : List K → List K → Option (List K)) (rows : Rows m number k row) where
    meet : (ws : List (List K)) (t u w : List K) → Built m k (Some u) ws t → length w ≡ k → Pass m w → Meet m k t u w
    meet ws t u w (us, e, b) l pw = record { left = b.whole; right = l; text = b.passes; ends = (b.front, b.ends); window = pw }

    -- of the rows after which the empty text ends with w, w itself is the least
    first-row : (w : List K) → length w ≡ k → Pass m w → Least number (Continues m [] w) w
    first-row w l pw = ((omega arith, pw, ([], refl)), λ r f. leads r f.2.0 f.2.1)
      where
        leads : (r a : List K) → r ≡ a ++ w → Leads number w r
        leads r [] e = rw e (inr (refl, before_itself number w))
        leads r (x ∷ a) e = inl (omega (arith, ap length e, length-append a w))

    pub row_least : (o : Option (List K)) (ws : List (List K)) (t w r : List K) → Built m k o ws t → length w ≡ k → Pass m w → row_to row o w ≡ Some r → Least number (Continues m t w) r
    row_least None ws t w r (_, f) l pw e = let same : w ≡ r = cc in rw (f, ← same) (first-row w l pw)
    row_least (Some u) ws t w r b l pw e = rows.serves t u w (meet ws t u w b l pw) r e

    pub row-none : (o : Option (List K)) (ws : List (List K)) (t w : List K) → Built m k o ws t → length w ≡ k → Pass m w → row_to row o w ≡ None → (r : List K) → Continues m t w r → ⊥
    row-none None ws t w b l pw e r f = absurd (let z : ◌≡◌ {A = ℕ} 0 1 = cc in omega arith)
    row-none (Some u) ws t w b l pw e r f = rows.none t u w (meet ws t u w b l pw) e r f

    -- with no row there is no string that has the windows and then this one
    pub no_rival : (o : Option (List K)) (ws : List (List K)) (t w : List K) → Built m k o ws t → length w ≡ k → Pass m w → row_to row o w ≡ None
        → (s : List K) → Rival m (ws ++ w ∷ []) s → ⊥
    no_rival o ws t w b l pw e s (ps, i) =
        let g = rises_last s 0 ws w i in
        let f = row_from o ws t w s g.0 b l pw ps g.3 g.2 in
        row-none o ws t w b l pw e f.0 f.1

    -- and with one the text with it is a shortest
    pub row-shortest : (o : Option (List K)) (ws : List (List K)) (t w r : List K) → Built m k o ws t → length w ≡ k → Pass m w → row_to row o w ≡ Some r
        → Rival m (ws ++ w ∷ []) (t ++ r) × ((s : List K) → Rival m (ws ++ w ∷ []) s → length (t ++ r) ≤ length s)
    row-shortest o ws t w r b l pw e =
        shortest (Some w) (ws ++ w ∷ []) (t ++ r) (built_more number o ws t w r b l pw (row_least o ws t w r b l pw e))
