-- What is known where a letter was decided so. Assumes nothing.
--
--   Decided .. o   the decision o, and that its cause holds and no earlier one does
use Rattle.std.proofs.Common.{◌≡◌, ℕ, ◌+◌, ◌<◌, ◌≤◌, true, false, ltb, leb, ◌⊎◌, List, length, Some, None, Ok, Err, Option, Result, refl, inl, inr}
use Rattle.std.proofs.lemmas.Bool.{cond_both, ltb-true, ltb-false, leb-true, leb-false}
use Rattle.faults.specs.declared.Fault.{Fault}
use Rattle.faults.specs.Causes.{short_work, full_sheet, no_string, short_text}
use Rattle.models.specs.Automaton.{Model}
use Rattle.sheetlaw.specs.Calls.{passes}
use Rattle.sheetlaw.specs.Step.{Contents, Outcome, wait, skip, keep, window, refuse_none, refuse_if, row_to, needs, decide, pauses}

module _ {K : Type 0} (m : Model K) (k : ℕ) (row : List K → List K → Option (List K)) (work room : ℕ) (s : Contents K) (x : K) where
  -- the first two causes do not hold
  abbrev pub Free : Type 0
  Free = (needs m ≤ work) × (s.taken < 50000)

  -- the letter ends a window that passes alone
  abbrev pub Whole : Type 0
  Whole = (k ≤ length (window k s x)) × (passes m (window k s x) ≡ true)

  abbrev pub Row : List K → Type 0
  Row r = row_to row s.latest (window k s x) ≡ Some r

  abbrev pub Decided : Result (Outcome K) Fault → Type 0
  Decided (Ok wait) = Free × (length (window k s x) < k)
  Decided (Ok skip) = Free × (k ≤ length (window k s x)) × (passes m (window k s x) ≡ false)
  Decided (Ok (keep w r)) = Free × Whole × Row r × (w ≡ window k s x) × (s.counts.text + length r ≤ room)
  Decided (Err f) =
      ((work < needs m) × (f ≡ short_work (needs m)))
      ⊎ (((needs m ≤ work) × (50000 ≤ s.taken) × (f ≡ full_sheet))
      ⊎ ((Free × Whole × (row_to row s.latest (window k s x) ≡ None) × (f ≡ no_string s.taken))
      ⊎ ((r : List K) × Free × Whole × Row r × (room < s.counts.text + length r) × (f ≡ short_text (s.counts.text + length r)))))

  pub decided : Decided (decide m k row work room s x)
  decided =
      cond_both (ltb work (needs m)) _ _ Decided (λ e. inl (ltb-true work (needs m) e, refl)) (λ e.
      cond_both (leb 50000 s.taken) _ _ Decided (λ f. inr (inl (ltb-false work (needs m) e, leb-true 50000 s.taken f, refl))) (λ f.
      let free : Free = (ltb-false work (needs m) e, leb-false 50000 s.taken f) in
      cond_both (ltb (length (window k s x)) k) _ _ Decided (λ g. (free, ltb-true (length (window k s x)) k g)) (λ g.
      cond_both (passes m (window k s x)) _ _ Decided (λ p. found free (ltb-false (length (window k s x)) k g, p) (row_to row s.latest (window k s x)) refl)
      (λ p. (free, ltb-false (length (window k s x)) k g, p)))))
    where
      found : Free → Whole → (o : Option (List K)) → row_to row s.latest (window k s x) ≡ o
          → Decided (refuse_none o (no_string s.taken) (λ r. refuse_if (ltb room (s.counts.text + length r)) (short_text (s.counts.text + length r)) (Ok (keep (window k s x) r))))
      found free whole None e = inr (inr (inl (free, whole, e, refl)))
      found free whole (Some r) e =
          cond_both (ltb room (s.counts.text + length r)) _ _ Decided
          (λ l. inr (inr (inr (r, free, whole, e, ltb-true room (s.counts.text + length r) l, refl))))
          (λ l. (free, whole, e, refl, ltb-false room (s.counts.text + length r) l))

module _ {K : Type 0} (s : Contents K) where
  abbrev pub Paused : Result (Unit {0}) Fault → Type 0
  Paused (Ok _) = s.taken < 50000
  Paused (Err f) = (50000 ≤ s.taken) × (f ≡ full_sheet)

  pub paused_so : Paused (pauses s)
  paused_so = cond_both (leb 50000 s.taken) _ _ Paused (λ e. (leb-true 50000 s.taken e, refl)) (λ e. leb-false 50000 s.taken e)
