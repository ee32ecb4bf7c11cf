-- The computed words of Patterns say what they are named for. Assumes nothing.
use Rattle.std.proofs.Common.{◌≡◌, ℕ, ◌≤◌, true, List, [], ◌∷◌, ◌++◌, length, get_or, sym, ap, ◌∙◌, subst, inl, inr, ⊎_elim, arith, length-append}
use Rattle.std.specs.List.{ContainsAt as Has}
use Rattle.std.proofs.lemmas.List.{get_or_default}
use Rattle.std.proofs.lemmas.Bool.{cases_Bool}
use Rattle.models.specs.Strings.{Ends}
use Rattle.listlaw.specs.Patterns.{Word, member, place, states, hit, longest}
use Rattle.listlaw.specs.Standing.{State, StatesRight, HitRight, LongestRight, WordsStand}
use Rattle.listlaw.proofs.Members.{has_member, member-at, place-below, place_at}
use Rattle.listlaw.proofs.States.{state-to, state_root, state-from, states_places}
use Rattle.listlaw.proofs.Suffixes.{longest_name, longest-skip, longest-below, hit_end, hit-from}

member_has : (ws : List Word) (w : Word) → member ws w ≡ true → Has ws w
member_has ws w m = let l = place-below ws w m in (place ws w, l, λ d. get_or_default ws (place ws w) d [] l ∙ place_at ws w m)

module _ (ps : List Word) where
  state-member : (w : Word) → State ps w → member (states ps) w ≡ true
  state-member w (inl e) = subst (λ (v : Word). member (states ps) v ≡ true) (sym e) (state_root ps)
  state-member w (inr h) = state-to ps h.0 w (has_member ps h.0 h.1.0) h.1.1

  right : StatesRight ps
  right = record {
    from = λ i h. ⊎_elim inl (λ r. inr (r.0, (member_has ps r.0 r.1, r.2))) (state-from ps (get_or (states ps) i []) (member-at (states ps) i h));
    all = λ w s. member_has (states ps) w (state-member w s);
    apart = λ i j h k e. sym (states_places ps i h) ∙ ap (place (states ps)) e ∙ states_places ps j k;
  }

  hits : (t : Word) → HitRight ps t
  hits t = record {
    found = λ h. let r = hit-from ps t h in (r.1.0, (member_has ps r.1.0 r.1.1.1, (r.0, r.1.1.0)));
    finds = λ p h e. subst (λ (v : Word). hit ps v ≡ true) (sym e.1) (hit_end ps e.0 p (has_member ps p h));
  }

  ending : (t : Word) → Ends (get_or (states ps) (longest (states ps) t) []) t
  ending [] = ([], sym (longest_name (states ps) [] (state_root ps)))
  ending (c ∷ t) = ⊎_elim
      (λ e. ([], sym (longest_name (states ps) (c ∷ t) e)))
      (λ e.
      let r = ending t in
      (c ∷ r.0, ap (λ (v : Word). c ∷ v) r.1 ∙ ap (λ (i : ℕ). (c ∷ r.0) ++ get_or (states ps) i []) (sym (longest-skip (states ps) c t e))))
      (cases_Bool (member (states ps) (c ∷ t)))

  -- a state that is a suffix is the whole, or a suffix of what follows the first letter
  most : (t r : Word) → member (states ps) r ≡ true → (front : Word) → t ≡ front ++ r → length r ≤ length (get_or (states ps) (longest (states ps) t) [])
  most t r m [] e =
      let h : member (states ps) t ≡ true = subst (λ (v : Word). member (states ps) v ≡ true) (sym e) m in
      omega (arith, ap length e, ap length (longest_name (states ps) t h))
  most [] r m (x ∷ front) e = let z : ◌≡◌ {A = ℕ} 0 1 = cc in absurd (omega arith)
  most (c ∷ t) r m (x ∷ front) e = ⊎_elim
      (λ h. omega (arith, ap length e, length-append front r, ap length (longest_name (states ps) (c ∷ t) h)))
      (λ h. omega (arith, most t r m front (tail e), ap (λ (i : ℕ). length (get_or (states ps) i [])) (longest-skip (states ps) c t h)))
      (cases_Bool (member (states ps) (c ∷ t)))
    where
      tail : {a b : ℕ} {s u : Word} → a ∷ s ≡ b ∷ u → s ≡ u
      tail e = cc

  longests : (t : Word) → LongestRight ps t
  longests t = record {
    inside = longest-below (states ps) (state_root ps) t;
    ends = ending t;
    most = λ r s e. most t r (state-member r s) e.0 e.1;
  }

pub words_stand_lem : WordsStand
words_stand_lem ps = (right ps, λ t. (hits ps t, longests ps t))
