-- Words that are gathered one after another, each once. Assumes nothing.
use Rattle.std.proofs.Common.{◌≡◌, ℕ, ◌<◌, ◌≤◌, true, false, ◌⊎◌, List, [], ◌∷◌, ◌++◌, length, get_or, sym, refl, ap, ◌∙◌, subst, inl, inr, ⊎_elim, arith}
use Rattle.std.proofs.lemmas.List.{length_push, get_or_append_left, get_or_push}
use Rattle.std.proofs.lemmas.Bool.{or_cases, or_left, or_right, cases_Bool, both_ways, cond-true, cond-false, cases_lt}
use Rattle.listlaw.specs.Patterns.{Word, same, member, place, gather, with, Places}
use Rattle.listlaw.proofs.Members.{member-left, member_push, member_cases, member_one, member-at, place-left, place-new, same_eq, same_refl}

pub with_old : (ws : List Word) (v : Word) → member ws v ≡ true → with ws v ≡ ws
with_old ws v h = cond-true (member ws v) ws (ws ++ (v ∷ [])) h

pub with-new : (ws : List Word) (v : Word) → member ws v ≡ false → with ws v ≡ ws ++ (v ∷ [])
with-new ws v h = cond-false (member ws v) ws (ws ++ (v ∷ [])) h

with-left : (ws : List Word) (v w : Word) → member ws w ≡ true → member (with ws v) w ≡ true
with-left ws v w h = ⊎_elim
    (λ e. ap (λ (l : List Word). member l w) (with_old ws v e) ∙ h)
    (λ e. ap (λ (l : List Word). member l w) (with-new ws v e) ∙ member-left ws (v ∷ []) w h)
    (cases_Bool (member ws v))

with_self : (ws : List Word) (v : Word) → member (with ws v) v ≡ true
with_self ws v = ⊎_elim
    (λ e. ap (λ (l : List Word). member l v) (with_old ws v e) ∙ e)
    (λ e. ap (λ (l : List Word). member l v) (with-new ws v e) ∙ member_push ws v)
    (cases_Bool (member ws v))

with_cases : (ws : List Word) (v w : Word) → member (with ws v) w ≡ true → (member ws w ≡ true) ⊎ (v ≡ w)
with_cases ws v w h = ⊎_elim
    (λ e. inl (sym (ap (λ (l : List Word). member l w) (with_old ws v e)) ∙ h))
    (λ e. ⊎_elim inl (λ o. inr (member_one v w o)) (member_cases ws (v ∷ []) w (sym (ap (λ (l : List Word). member l w) (with-new ws v e)) ∙ h)))
    (cases_Bool (member ws v))

pub gather_append : (us ws vs : List Word) → gather ws (us ++ vs) ≡ gather (gather ws us) vs
gather_append [] ws vs = refl
gather_append (u ∷ us) ws vs = gather_append us (with ws u) vs

pub gather-left : (vs ws : List Word) (w : Word) → member ws w ≡ true → member (gather ws vs) w ≡ true
gather-left [] ws w h = h
gather-left (v ∷ vs) ws w h = gather-left vs (with ws v) w (with-left ws v w h)

pub gather-right : (vs ws : List Word) (w : Word) → member vs w ≡ true → member (gather ws vs) w ≡ true
gather-right [] ws w h = absurd (both_ways false refl h)
gather-right (v ∷ vs) ws w h = ⊎_elim
    (λ e. gather-left vs (with ws v) w (subst (λ (u : Word). member (with ws v) u ≡ true) (same_eq v w e) (with_self ws v)))
    (λ e. gather-right vs (with ws v) w e)
    (or_cases (same v w) (member vs w) h)

pub gather_cases : (vs ws : List Word) (w : Word) → member (gather ws vs) w ≡ true → (member ws w ≡ true) ⊎ (member vs w ≡ true)
gather_cases [] ws w h = inl h
gather_cases (v ∷ vs) ws w h = ⊎_elim
    (λ e. ⊎_elim inl (λ o. inr (or_left (same v w) (member vs w) (own o))) (with_cases ws v w e))
    (λ e. inr (or_right (same v w) (member vs w) e))
    (gather_cases vs (with ws v) w h)
  where
    own : v ≡ w → same v w ≡ true
    own e = subst (λ (u : Word). same v u ≡ true) e (same_refl v)

pub with-length : (ws : List Word) (v : Word) → length ws ≤ length (with ws v)
with-length ws v = ⊎_elim
    (λ e. omega (arith, ap length (with_old ws v e)))
    (λ e. omega (arith, ap length (with-new ws v e), length_push ws v))
    (cases_Bool (member ws v))

pub gather-length : (vs ws : List Word) → length ws ≤ length (gather ws vs)
gather-length [] ws = omega arith
gather-length (v ∷ vs) ws = omega (arith, with-length ws v, gather-length vs (with ws v))

pub places_push : (ws : List Word) (v : Word) → Places ws → member ws v ≡ false → Places (ws ++ (v ∷ []))
places_push ws v p new i h = ⊎_elim
    (λ lt. ap (place (ws ++ (v ∷ []))) (get_or_append_left ws (v ∷ []) [] i lt) ∙ place-left ws (v ∷ []) (get_or ws i []) (member-at ws i lt) ∙ p i lt)
    (λ ge.
    let e : length ws ≡ i = omega (arith, length_push ws v) in
    ap (place (ws ++ (v ∷ []))) (get_or_push ws v [] i e) ∙ place-new ws v new ∙ e)
    (cases_lt i (length ws))

pub places_gather : (vs ws : List Word) → Places ws → Places (gather ws vs)
places_gather [] ws p = p
places_gather (v ∷ vs) ws p = places_gather vs (with ws v) (⊎_elim
    (λ e. subst Places (sym (with_old ws v e)) p)
    (λ e. subst Places (sym (with-new ws v e)) (places_push ws v p e))
    (cases_Bool (member ws v)))

-- what was there stays where it was
pub gather-at : (vs ws : List Word) (d : Word) (i : ℕ) → i < length ws → get_or (gather ws vs) i d ≡ get_or ws i d
gather-at [] ws d i h = refl
gather-at (v ∷ vs) ws d i h =
    gather-at vs (with ws v) d i (omega (arith, with-length ws v))
    ∙ ⊎_elim
    (λ e. ap (λ (l : List Word). get_or l i d) (with_old ws v e))
    (λ e. ap (λ (l : List Word). get_or l i d) (with-new ws v e) ∙ get_or_append_left ws (v ∷ []) d i h)
    (cases_Bool (member ws v))
