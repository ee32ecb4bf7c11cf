-- The states of a list of patterns: its proper prefixes. Assumes nothing.
use Rattle.std.proofs.Common.{◌≡◌, ℕ, zero, suc, ◌+◌, ◌<◌, ◌≤◌, max, true, false, ◌⊎◌, List, [], ◌∷◌, ◌++◌, map, length, get_or, take, sym, refl, ap, ◌∙◌, subst, inl, inr, ⊎_elim, append_assoc, add-zero, arith, length-append}
use Rattle.std.specs.List.{flat_map}
use Rattle.std.proofs.lemmas.List.{map-append, flat_map_more, take_more, length-take-le, length_push, take_all}
use Rattle.std.proofs.lemmas.Bool.{or_cases, or_left, or_right, both_ways}
use Rattle.listlaw.specs.Patterns.{Word, same, member, gather, fronts, states, extent, memory, with, Places}
use Rattle.listlaw.proofs.Members.{same_refl, same_eq, never, member-left, member_right, member_cases}
use Rattle.listlaw.proofs.Gathering.{with-new, gather_append, gather-left, gather-right, gather_cases, gather-at, gather-length, with-length, places_gather}

-- words under one first letter
under_in : (x : ℕ) (vs : List Word) (v : Word) → member vs v ≡ true → member (map (λ w. x ∷ w) vs) (x ∷ v) ≡ true
under_in x [] v h = absurd (both_ways false refl h)
under_in x (u ∷ vs) v h = ⊎_elim
    (λ e. or_left (same (x ∷ u) (x ∷ v)) (member (map (λ w. x ∷ w) vs) (x ∷ v)) (subst (λ (t : Word). same (x ∷ u) (x ∷ t) ≡ true) (same_eq u v e) (same_refl (x ∷ u))))
    (λ e. or_right (same (x ∷ u) (x ∷ v)) (member (map (λ w. x ∷ w) vs) (x ∷ v)) (under_in x vs v e))
    (or_cases (same u v) (member vs v) h)

under-from : (x : ℕ) (vs : List Word) (w : Word) → member (map (λ w. x ∷ w) vs) w ≡ true → (v : Word) × (w ≡ x ∷ v) × (member vs v ≡ true)
under-from x [] w h = absurd (both_ways false refl h)
under-from x (u ∷ vs) w h = ⊎_elim
    (λ e. (u, sym (same_eq (x ∷ u) w e), or_left (same u u) (member vs u) (same_refl u)))
    (λ e. let r = under-from x vs w e in (r.0, r.1, or_right (same u r.0) (member vs r.0) r.2))
    (or_cases (same (x ∷ u) w) (member (map (λ w. x ∷ w) vs) w) h)

-- w is a proper prefix of p
abbrev pub Front : Word → Word → Type 0
Front p w = (c : ℕ) × ((rest : Word) × (p ≡ w ++ (c ∷ rest)))

pub front_from : (p w : Word) → member (fronts p) w ≡ true → Front p w
front_from [] w h = absurd (both_ways false refl h)
front_from (x ∷ p) w h = ⊎_elim
    (λ e. (x, (p, ap (λ (t : Word). t ++ (x ∷ p)) (same_eq [] w e))))
    (λ e.
    let u = under-from x (fronts p) w e in
    let f = front_from p u.0 u.2 in
    (f.0, (f.1.0, ap (λ (t : Word). x ∷ t) f.1.1 ∙ ap (λ (t : Word). t ++ (f.0 ∷ f.1.0)) (sym u.1))))
    (or_cases (same [] w) (member (map (λ w. x ∷ w) (fronts p)) w) h)

front_in : (w : Word) (c : ℕ) (rest : Word) → member (fronts (w ++ (c ∷ rest))) w ≡ true
front_in [] c rest = refl
front_in (x ∷ w) c rest = under_in x (fronts (w ++ (c ∷ rest))) w (front_in w c rest)

pub front_to : (p w : Word) → Front p w → member (fronts p) w ≡ true
front_to p w f = subst (λ (t : Word). member (fronts t) w ≡ true) (sym f.1.1) (front_in w f.0 f.1.0)

pub fronts_push : (s : Word) (c : ℕ) → fronts (s ++ (c ∷ [])) ≡ fronts s ++ (s ∷ [])
fronts_push [] c = refl
fronts_push (x ∷ s) c =
    ap (λ (l : List Word). [] ∷ map (λ w. x ∷ w) l) (fronts_push s c) ∙ ap (λ (l : List Word). [] ∷ l) (map-append (λ (w : Word). x ∷ w) (fronts s) (s ∷ []))

-- the fronts of a longer prefix
pub fronts-more : (p : Word) (k : ℕ) → k < length p → fronts (take (k + 1) p) ≡ fronts (take k p) ++ (take k p ∷ [])
fronts-more p k h = ap fronts (take_more p k 0 h) ∙ fronts_push (take k p) (get_or p k 0)

-- one prefix more is gathered
pub gather-more : (ws : List Word) (p : Word) (k : ℕ) → k < length p → gather ws (fronts (take (k + 1) p)) ≡ with (gather ws (fronts (take k p))) (take k p)
gather-more ws p k h = ap (gather ws) (fronts-more p k h) ∙ gather_append (fronts (take k p)) ws (take k p ∷ [])

among_in : (ps : List Word) (p w : Word) → member ps p ≡ true → member (fronts p) w ≡ true → member (flat_map fronts ps) w ≡ true
among_in [] p w h f = absurd (both_ways false refl h)
among_in (q ∷ ps) p w h f = ⊎_elim
    (λ e. member-left (fronts q) (flat_map fronts ps) w (subst (λ (t : Word). member (fronts t) w ≡ true) (sym (same_eq q p e)) f))
    (λ e. member_right (fronts q) (flat_map fronts ps) w (among_in ps p w e f))
    (or_cases (same q p) (member ps p) h)

among-from : (ps : List Word) (w : Word) → member (flat_map fronts ps) w ≡ true → (p : Word) × (member ps p ≡ true) × (member (fronts p) w ≡ true)
among-from [] w h = absurd (both_ways false refl h)
among-from (q ∷ ps) w h = ⊎_elim
    (λ e. (q, or_left (same q q) (member ps q) (same_refl q), e))
    (λ e. let r = among-from ps w e in (r.0, or_right (same q r.0) (member ps r.0) r.1, r.2))
    (member_cases (fronts q) (flat_map fronts ps) w h)

-- the states are the empty word and the proper prefixes of the patterns, and nothing else
pub state-to : (ps : List Word) (p w : Word) → member ps p ≡ true → Front p w → member (states ps) w ≡ true
state-to ps p w h f = gather-right (flat_map fronts ps) ([] ∷ []) w (among_in ps p w h (front_to p w f))

pub state_root : (ps : List Word) → member (states ps) [] ≡ true
state_root ps = gather-left (flat_map fronts ps) ([] ∷ []) [] refl

pub state-from : (ps : List Word) (w : Word) → member (states ps) w ≡ true → (w ≡ []) ⊎ ((p : Word) × (member ps p ≡ true) × Front p w)
state-from ps w h = ⊎_elim
    (λ e. inl (⊎_elim (λ s. sym (same_eq [] w s)) (λ n. absurd (both_ways false refl n)) (or_cases (same [] w) false e)))
    (λ e. let r = among-from ps w e in inr (r.0, r.1, front_from r.0 w r.2))
    (gather_cases (flat_map fronts ps) ([] ∷ []) w h)

pub states-first : (ps : List Word) → get_or (states ps) 0 [] ≡ []
states-first ps = gather-at (flat_map fronts ps) ([] ∷ []) [] 0 (omega arith)

pub states-some : (ps : List Word) → 1 ≤ length (states ps)
states-some ps = omega (arith, gather-length (flat_map fronts ps) ([] ∷ []))

one_place : Places ([] ∷ [])
one_place zero h = refl
one_place (suc i) h = absurd (omega arith)

pub states_places : (ps : List Word) → Places (states ps)
states_places ps = places_gather (flat_map fronts ps) ([] ∷ []) one_place

pub states_push : (ps : List Word) (p : Word) → states (ps ++ (p ∷ [])) ≡ gather (states ps) (fronts p)
states_push ps p = ap (gather ([] ∷ [])) (sym (flat_map_more fronts [] ps p)) ∙ gather_append (flat_map fronts ps) ([] ∷ []) (fronts p)

-- a prefix of a state is a state
abbrev pub Closed : List Word → Type 0
Closed ws = (w : Word) (c : ℕ) → member ws (w ++ (c ∷ [])) ≡ true → member ws w ≡ true

pub states-closed : (ps : List Word) → Closed (states ps)
states-closed ps w c h = ⊎_elim
    (λ e. absurd (omega (arith, ap length e, length_push w c)))
    (λ r. state-to ps r.0 w r.1 (c, (r.2.0 ∷ r.2.1.0, r.2.1.1 ∙ append_assoc w (c ∷ []) (r.2.0 ∷ r.2.1.0))))
    (state-from ps (w ++ (c ∷ [])) h)

-- so is a pattern less its last letter
pub states_fronted : (ps : List Word) (w : Word) (c : ℕ) → member ps (w ++ (c ∷ [])) ≡ true → member (states ps) w ≡ true
states_fronted ps w c h = state-to ps (w ++ (c ∷ [])) w h (c, ([], refl))

pub extent_above : (ps : List Word) (p : Word) → member ps p ≡ true → length p ≤ extent ps
extent_above [] p h = absurd (both_ways false refl h)
extent_above (q ∷ ps) p h = ⊎_elim
    (λ e. omega (arith, ap length (same_eq q p e)))
    (λ e. omega (arith, extent_above ps p e))
    (or_cases (same q p) (member ps p) h)

pub states_short : (ps : List Word) (w : Word) → member (states ps) w ≡ true → length w ≤ memory ps
states_short ps w h = ⊎_elim
    (λ e. omega (arith, ap length e))
    (λ r. omega (arith, extent_above ps r.0 r.1, ap length r.2.1.1, length-append w (r.2.0 ∷ r.2.1.0)))
    (state-from ps w h)

pub extent_push : (ps : List Word) (p : Word) → extent (ps ++ (p ∷ [])) ≡ max (extent ps) (length p)
extent_push [] p = omega arith
extent_push (q ∷ ps) p = omega (arith, extent_push ps p)

module _ (ws : List Word) (p : Word) where
  closed-take : Closed ws → (j d : ℕ) → j + d ≤ length p → member ws (take (j + d) p) ≡ true → member ws (take j p) ≡ true
  closed-take closed j zero h m = rw add-zero at m
  closed-take closed j (suc d) h m =
      let e : j + suc d ≡ j + d + 1 = omega arith in
      let cut : take (j + suc d) p ≡ take (j + d) p ++ (get_or p (j + d) 0 ∷ []) = ap (λ (n : ℕ). take n p) e ∙ take_more p (j + d) 0 (omega arith) in
      closed-take closed j d (omega arith) (closed (take (j + d) p) (get_or p (j + d) 0) (sym (ap (member ws) cut) ∙ m))

  -- the prefixes up to k letters are there, and the next is not: then each longer one is new
  pub gather_missing : Closed ws → (k : ℕ) → gather ws (fronts (take (k + 1) p)) ≡ ws → member ws (take (k + 1) p) ≡ false → (d : ℕ) → k + d < length p → length (gather ws (fronts (take (k + d + 1) p))) ≡ length ws + d
  gather_missing closed k known new zero h =
      let e : k + 0 + 1 ≡ k + 1 = omega arith in
      omega (arith, ap (λ (n : ℕ). length (gather ws (fronts (take n p)))) e, ap length known)
  gather_missing closed k known new (suc d) h =
      let m : ℕ = k + d + 1 in
      let e : k + suc d + 1 ≡ m + 1 = omega arith in
      let f : k + 1 + d ≡ m = omega arith in
      let long = length-take-le m p (omega arith) in
      let out : member (gather ws (fronts (take m p))) (take m p) ≡ false = never (member (gather ws (fronts (take m p))) (take m p)) (λ t. ⊎_elim
      (λ a. both_ways (member ws (take (k + 1) p)) new (closed-take closed (k + 1) d (omega arith) (ap (λ (n : ℕ). member ws (take n p)) f ∙ a)))
      (λ a. let r = front_from (take m p) (take m p) a in omega (arith, ap length r.1.1, length-append (take m p) (r.0 ∷ r.1.0)))
      (gather_cases (fronts (take m p)) ws (take m p) t)) in
      omega (arith, ap (λ (n : ℕ). length (gather ws (fronts (take n p)))) e, ap length (gather-more ws p m (omega arith)), ap length (with-new (gather ws (fronts (take m p))) (take m p) out), length_push (gather ws (fronts (take m p))) (take m p), gather_missing closed k known new d (omega arith))

  -- fewer prefixes bring no more states
  pub gather_fewer : (m d : ℕ) → m + d ≡ length p → length (gather ws (fronts (take m p))) ≤ length (gather ws (fronts p))
  gather_fewer m zero h = omega (arith, ap (λ (l : Word). length (gather ws (fronts l))) (take_all m p (omega arith)))
  gather_fewer m (suc d) h = omega (arith, gather_fewer (m + 1) d (omega arith), ap length (gather-more ws p m (omega arith)), with-length (gather ws (fronts (take m p))) (take m p))
