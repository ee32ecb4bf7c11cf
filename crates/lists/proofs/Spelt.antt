-- Bytes that spell a pattern. Assumes nothing.
use Rattle.std.proofs.Common.{◌≡◌, ℕ, suc, ◌+◌, ◌<◌, List, [], ◌∷◌, ◌++◌, length, get_or, take, drop, Some, None, Option, sym, refl, ap, ◌∙◌, add-one, arith, take-append-drop}
use Rattle.std.proofs.lemmas.List.{drop_more, length-take-le}
use Rattle.models.specs.Automaton.{later}
use Rattle.texts.specs.Texts.{stray_or, stray, before, spelled}

module _ {K : Type 0} (reads : ℕ → Option K) where
  -- what comes after a letter is no stray byte more than before it
  later-none : (o : Option ℕ) → later o ≡ None → o ≡ None
  later-none None e = refl
  later-none (Some n) e = let z : ◌≡◌ {A = ℕ} 0 1 = cc in absurd (omega arith)

  head-none : (o : Option K) (rest : Option ℕ) → stray_or o rest ≡ None → rest ≡ None
  head-none (Some x) rest e = later-none rest e
  head-none None rest e = let z : ◌≡◌ {A = ℕ} 0 1 = cc in absurd (omega arith)

  pub stray_push : (xs : List ℕ) (b : ℕ) (x : K) → stray reads xs ≡ None → reads b ≡ Some x → stray reads (xs ++ (b ∷ [])) ≡ None
  stray_push [] b x e r = ap (λ (o : Option K). stray_or o None) r
  stray_push (c ∷ xs) b x e r =
      let rest = stray_push xs b x (head-none (reads c) (stray reads xs) e) r in
      ap (stray_or (reads c)) (rest ∙ sym (head-none (reads c) (stray reads xs) e)) ∙ e

  pub stray-at : (xs : List ℕ) (b : ℕ) (ys : List ℕ) → stray reads xs ≡ None → reads b ≡ None → stray reads (xs ++ (b ∷ ys)) ≡ Some (length xs)
  stray-at [] b ys e r = ap (λ (o : Option K). stray_or o (stray reads ys)) r
  stray-at (c ∷ xs) b ys e r =
      let rest = stray-at xs b ys (head-none (reads c) (stray reads xs) e) r in
      elim (reads c) as (λ o. stray_or o (stray reads xs) ≡ None → stray_or o (stray reads (xs ++ (b ∷ ys))) ≡ Some (suc (length xs))) [
        | Some x ↦ λ h. ap later rest ∙ ap Some (add-one (length xs))
        | None ↦ λ h. (let z : ◌≡◌ {A = ℕ} 0 1 = cc in absurd (omega arith))
      ] e

  pub spelled_push : (xs : List ℕ) (b : ℕ) (x : K) → reads b ≡ Some x → spelled reads (xs ++ (b ∷ [])) ≡ spelled reads xs ++ (x ∷ [])
  spelled_push [] b x r = ap (λ (o : Option K). before o []) r
  spelled_push (c ∷ xs) b x r =
      elim (reads c) as (λ o. before o (spelled reads (xs ++ (b ∷ []))) ≡ before o (spelled reads xs) ++ (x ∷ [])) [
        | Some y ↦ ap (λ (l : List K). y ∷ l) (spelled_push xs b x r)
        | None ↦ spelled_push xs b x r
      ]

  -- bytes that are all letters spell as many
  pub length-spelled : (xs : List ℕ) → stray reads xs ≡ None → length (spelled reads xs) ≡ length xs
  length-spelled [] e = refl
  length-spelled (c ∷ xs) e =
      let rest = length-spelled xs (head-none (reads c) (stray reads xs) e) in
      elim (reads c) as (λ o. stray_or o (stray reads xs) ≡ None → length (before o (spelled reads xs)) ≡ suc (length xs)) [
        | Some y ↦ λ h. ap suc rest
        | None ↦ λ h. (let z : ◌≡◌ {A = ℕ} 0 1 = cc in absurd (omega arith))
      ] e

  -- the byte at i is the first that is no letter
  pub stray-here : (bytes : List ℕ) (i : ℕ) → i < length bytes → stray reads (take i bytes) ≡ None → reads (get_or bytes i 0) ≡ None → stray reads bytes ≡ Some i
  stray-here bytes i l e r =
      ap (stray reads) (sym (take-append-drop i bytes) ∙ ap (λ (t : List ℕ). take i bytes ++ t) (drop_more bytes i 0 l))
      ∙ stray-at (take i bytes) (get_or bytes i 0) (drop (i + 1) bytes) e r ∙ ap Some (length-take-le i bytes (omega arith))
