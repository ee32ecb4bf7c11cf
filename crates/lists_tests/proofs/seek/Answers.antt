use Rattle.std.proofs.Common.{◌≡◌, ℕ, zero, suc, true, List, [], ◌∷◌, is_some, Some, None, Option, sym, refl, ◌∙◌, subst, arith}
use Rattle.std.specs.List.{ContainsAt as Has}
use Rattle.std.proofs.lemmas.Result.{err_from_is_err_and}
use Rattle.models.specs.Automaton.{Next, walk, bind, stops, stop_or, later}
use Rattle.models.specs.Strings.{Occurs}
use Rattle.models.proofs.Walks.{stops-none}
use Rattle.lists_tests.proofs.seek.Goals as goal

pub returns-in_err-add : goal.returns-in_err-add
returns-in_err-add g c =
    let p = err_from_is_err_and c.from_residual.result c.from_residual.ensures.1 in
    rw (p.1, p.2) (record { found = tt; refused = c.in_err-add.ensures.cause _ _ [] c.start-list.ensures })

-- a string that is stopped nowhere passes
later-none : (o : Option ℕ) → later o ≡ None → o ≡ None
later-none None e = refl
later-none (Some n) e = let z : ◌≡◌ {A = ℕ} 0 1 = cc in absurd (omega arith)

none_passes : {K : Type 0} (next : Next K) (q : ℕ) (xs : List K) → stops next q xs ≡ None → is_some (walk next q xs) ≡ true
none_passes next q [] e = refl
none_passes next q (a ∷ xs) e =
    elim (next q a) as (λ o. stop_or o (λ t. stops next t xs) ≡ None → is_some (bind o (λ t. walk next t xs)) ≡ true) [
      | Some t ↦ λ h. none_passes next t xs (later-none (stops next t xs) h)
      | None ↦ λ h. (let z : ◌≡◌ {A = ℕ} 0 1 = cc in absurd (omega arith))
    ] e

some_is : (o : Option ℕ) → is_some o ≡ true → (t : ℕ) × (o ≡ Some t)
some_is (Some t) h = (t, refl)
some_is None h = let z : ◌≡◌ {A = ℕ} 0 1 = cc in absurd (omega arith)

-- a list of one has nothing else
only : {X : Type 0} (p q : X) → Has (p ∷ []) q → q ≡ p
only p q (zero, l, at) = sym (at p)
only p q (suc k, l, at) = absurd (omega arith)

pub returns : goal.returns
returns g c =
    let A = g.L.Letter.alphabet in
    let p = c.args.pattern.now in
    let xs = c.args.text.now in
    let means = c.finish-done.ensures.means _ _ (p ∷ []) (c.in_ok-add.ensures.holds _ _ [] c.start-list.ensures) in
    let has : Has (p ∷ []) p = (0, omega arith, λ d. refl) in
    record {
      found = (
        (λ e o. means.stops xs p has o (none_passes _ _ xs (sym c.check.ensures ∙ e))),
        (λ free.
            let w = means.passes xs (λ q h o. free (subst (λ (r : List g.row.L.Denot). Occurs r xs) (only p q h) o)) in
            let s = some_is _ w in
            c.check.ensures ∙ stops-none _ _ s.0 xs s.1),
      );
      refused = c.in_ok-add.ensures.cause _ _ [] c.start-list.ensures;
    }
