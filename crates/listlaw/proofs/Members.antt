-- Words that are equal, members and places. Assumes nothing.
use Rattle.std.proofs.Common.{◌≡◌, ℕ, zero, suc, ◌<◌, Bool, true, false, cond, ◌||◌, eqb, ◌⊎◌, List, [], ◌∷◌, ◌++◌, length, get_or, sym, refl, ap, ◌∙◌, ⊎_elim, arith}
use Rattle.std.specs.List.{ContainsAt as Has}
use Rattle.std.proofs.lemmas.Bool.{eqb-true, eq-eqb, and_parts, or_cases, or_left, or_right, or_parts, cases_Bool, both_ways}
use Rattle.listlaw.specs.Patterns.{Word, same, member, place}

pub same_refl : (s : Word) → same s s ≡ true
same_refl [] = refl
same_refl (x ∷ s) = rw (eq-eqb x x refl) (same_refl s)

pub same_eq : (s t : Word) → same s t ≡ true → s ≡ t
same_eq [] [] e = refl
same_eq [] (y ∷ t) e = absurd (both_ways false refl e)
same_eq (x ∷ s) [] e = absurd (both_ways false refl e)
same_eq (x ∷ s) (y ∷ t) e =
    let h = and_parts (eqb x y) (same s t) e in
    let a = eqb-true x y h.0 in
    let b = same_eq s t h.1 in
    cc

pub not_same : (s t : Word) → (s ≡ t → ⊥) → same s t ≡ false
not_same s t h = ⊎_elim (λ e. absurd (h (same_eq s t e))) (λ e. e) (cases_Bool (same s t))

-- a test that cannot be true is false
pub never : (b : Bool) → (b ≡ true → ⊥) → b ≡ false
never true h = absurd (h refl)
never false h = refl

pub member-append : (ws vs : List Word) (w : Word) → member (ws ++ vs) w ≡ (member ws w || member vs w)
member-append [] vs w = refl
member-append (x ∷ ws) vs w =
    elim (same x w) as (λ b. (b || member (ws ++ vs) w) ≡ ((b || member ws w) || member vs w)) [ true ↦ refl | false ↦ member-append ws vs w ]

pub member-left : (ws vs : List Word) (w : Word) → member ws w ≡ true → member (ws ++ vs) w ≡ true
member-left ws vs w h = member-append ws vs w ∙ or_left (member ws w) (member vs w) h

pub member_right : (ws vs : List Word) (w : Word) → member vs w ≡ true → member (ws ++ vs) w ≡ true
member_right ws vs w h = member-append ws vs w ∙ or_right (member ws w) (member vs w) h

pub member_cases : (ws vs : List Word) (w : Word) → member (ws ++ vs) w ≡ true → (member ws w ≡ true) ⊎ (member vs w ≡ true)
member_cases ws vs w h = or_cases (member ws w) (member vs w) (sym (member-append ws vs w) ∙ h)

pub member_one : (v w : Word) → member (v ∷ []) w ≡ true → v ≡ w
member_one v w h = ⊎_elim (same_eq v w) (λ e. absurd (both_ways false refl e)) (or_cases (same v w) false h)

pub member_push : (ws : List Word) (w : Word) → member (ws ++ (w ∷ [])) w ≡ true
member_push ws w = member_right ws (w ∷ []) w (or_left (same w w) false (same_refl w))

-- what stands at a place is a member
pub member-at : (ws : List Word) (i : ℕ) → i < length ws → member ws (get_or ws i []) ≡ true
member-at [] i h = absurd (omega arith)
member-at (w ∷ ws) zero h = or_left (same w w) (member ws w) (same_refl w)
member-at (w ∷ ws) (suc i) h = or_right (same w (get_or ws i [])) (member ws (get_or ws i [])) (member-at ws i (omega arith))

pub place-below : (ws : List Word) (w : Word) → member ws w ≡ true → place ws w < length ws
place-below [] w h = absurd (both_ways false refl h)
place-below (v ∷ ws) w h =
    elim (same v w) as (λ b. (b || member ws w) ≡ true → cond b 0 (suc (place ws w)) < suc (length ws)) [ true ↦ λ e. omega arith | false ↦ λ e. let k = place-below ws w e in omega arith ] h

pub place_at : (ws : List Word) (w : Word) → member ws w ≡ true → get_or ws (place ws w) [] ≡ w
place_at [] w h = absurd (both_ways false refl h)
place_at (v ∷ ws) w h =
    elim (same v w) as (λ b. same v w ≡ b → (b || member ws w) ≡ true → get_or (v ∷ ws) (cond b 0 (suc (place ws w))) [] ≡ w) [ true ↦ λ s e. same_eq v w s | false ↦ λ s e. place_at ws w e ] refl h

-- a member that is added stays where it was
pub place-left : (ws vs : List Word) (w : Word) → member ws w ≡ true → place (ws ++ vs) w ≡ place ws w
place-left [] vs w h = absurd (both_ways false refl h)
place-left (v ∷ ws) vs w h =
    elim (same v w) as (λ b. (b || member ws w) ≡ true → cond b 0 (suc (place (ws ++ vs) w)) ≡ cond b 0 (suc (place ws w))) [ true ↦ λ e. refl | false ↦ λ e. ap suc (place-left ws vs w e) ] h

-- and a new one stands at the end
pub place-new : (ws : List Word) (w : Word) → member ws w ≡ false → place (ws ++ (w ∷ [])) w ≡ length ws
place-new [] w h = rw (same_refl w)
place-new (v ∷ ws) w h =
    let p = or_parts (same v w) (member ws w) h in
    rw p.0 (ap suc (place-new ws w p.1))

pub has_member : (ws : List Word) (w : Word) → Has ws w → member ws w ≡ true
has_member ws w h = ap (member ws) (sym (h.2 [])) ∙ member-at ws h.0 h.1
