-- A pattern line that is taken. Assumes nothing.
use Rattle.std.proofs.Common.{◌≡◌, ℕ, ◌+◌, List, [], ◌∷◌, ◌++◌, None, Ok, Err, Option, Result, sym, refl, ap, ◌∙◌, arith}
use Rattle.models.specs.Alphabet.{Alphabet}
use Rattle.faults.specs.declared.Fault.{Fault}
use Rattle.lists.specs.Taking.{refused, taking}
use Rattle.lists.specs.Reading.{byte_cause}
use Rattle.texts.specs.Texts.{spelled}
use Rattle.stations.specs.Stations.{Item, a_pattern, bind, onward, take_line}
use Rattle.stations.specs.declared.Form.{Form}
use Rattle.listings.specs.Listings.{listed, reached, hand, hand_on, further, unless}

module _ {K : Type 0} (A : Alphabet K) where
  -- a pattern line that is taken
  pub listed-pattern : (reads : ℕ → Option K) (n w l l' : ℕ) (f g : Form) (qs : List (List K)) (bs : List ℕ) (x : Item) (ys xs : List Item)
      → l' ≡ l + 1 → ys ≡ x ∷ xs → bind x (take_line f) ≡ Ok (g, a_pattern bs) → byte_cause A reads n w qs bs ≡ None
      → listed A reads n w (l' + 1) g (qs ++ (spelled reads bs ∷ [])) xs ≡ listed A reads n w (l + 1) f qs ys
  listed-pattern reads n w l l' f g qs bs x ys xs el ey et eb =
      let go = λ (h : Form) (rs : List (List K)). listed A reads n w (l + 1 + 1) h rs xs in
      ap (λ k. listed A reads n w (k + 1) g (qs ++ (spelled reads bs ∷ [])) xs) el
      ∙ sym (ap (listed A reads n w (l + 1) f qs) ey
      ∙ ap (λ r. onward (l + 1) r (λ t. hand A reads n w (l + 1) qs xs go t.0 t.1)) et
      ∙ ap (λ o. onward (l + 1) (unless o (qs ++ (spelled reads bs ∷ []))) (λ rs. go g rs)) eb)

  -- and how far the lines come with it
  pub reached-pattern : (reads : ℕ → Option K) (n w l l' : ℕ) (f g : Form) (qs : List (List K)) (bs : List ℕ) (x : Item) (ys xs : List Item)
      → l' ≡ l + 1 → ys ≡ x ∷ xs → bind x (take_line f) ≡ Ok (g, a_pattern bs) → byte_cause A reads n w qs bs ≡ None
      → reached A reads n w (l' + 1) g (qs ++ (spelled reads bs ∷ [])) xs ≡ reached A reads n w (l + 1) f qs ys
  reached-pattern reads n w l l' f g qs bs x ys xs el ey et eb =
      let go = λ (h : Form) (rs : List (List K)). reached A reads n w (l + 1 + 1) h rs xs in
      ap (λ k. reached A reads n w (k + 1) g (qs ++ (spelled reads bs ∷ [])) xs) el
      ∙ sym (ap (reached A reads n w (l + 1) f qs) ey
      ∙ ap (λ r. further r (qs, (l + 1 + 1, xs)) (λ t. hand_on A reads n w qs (qs, (l + 1 + 1, xs)) go t.0 t.1)) et
      ∙ ap (λ o. further (unless o (qs ++ (spelled reads bs ∷ []))) (qs, (l + 1 + 1, xs)) (λ rs. go g rs)) eb)

-- a pattern that is not refused is taken
pub taking_unrefused : {X K : Type 0} (r : Result X Fault) (ps : List (List K)) (p : List K) → refused r ≡ None → taking r ps p ≡ ps ++ (p ∷ [])
taking_unrefused (Ok x) ps p h = refl
taking_unrefused (Err e) ps p h = let z : ◌≡◌ {A = ℕ} 0 1 = cc in absurd (omega arith)
