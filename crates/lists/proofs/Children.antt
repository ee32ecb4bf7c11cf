-- The first state that hangs under another by a letter. Assumes nothing.
use Rattle.std.proofs.Common.{◌≡◌, ℕ, ◌+◌, ◌-◌, ◌<◌, ◌≤◌, Bool, true, false, ◌&&◌, ◌==◌, List, length, take, drop, position, Some, None, Option, cond, sym, ap, ◌∙◌, ⊎_elim, arith, length-drop}
use Rattle.std.proofs.lemmas.List.{get_or-take, length-take, length-take-le}
use Rattle.std.proofs.lemmas.List.Quantifiers.{position-Some}
use Rattle.std.proofs.lemmas.Grind.{get_or_after_one}
use Rattle.std.proofs.lemmas.List.Sums.{fails_before_first}
use Rattle.std.specs.List.{position_or_len}
use Rattle.std.proofs.lemmas.Bool.{cases_lt, lt-ltb, eq-eqb, eqb-true, and_parts, and_from}
use Rattle.lists.specs.declared.record.Record.{Record}
use Rattle.lists.specs.declared.tree.Tree.{Tree}
use Rattle.lists.specs.Names.{blank, rec, Trie}

-- what always holds of a tree
pub trie : (t : Tree) → Trie t.records.now t.used
trie t = (t.some, t.few, t.below, t.deep, t.apart, t.fits)

module _ (t : Tree) (under a : ℕ) where
  abbrev ns : List Record
  ns = t.records.now

  abbrev used : ℕ
  used = t.used

  at : (j : ℕ) → 0 < j → j < used → rec (drop 1 (take used ns)) (j - 1) ≡ rec ns j
  at j pos h =
      let e : 1 + (j - 1) ≡ j = omega arith in
      get_or_after_one (take used ns) (j - 1) blank ∙ ap (rec (take used ns)) e ∙ get_or-take used ns j blank h

  count : 1 < used → length (drop 1 (take used ns)) ≡ used - 1
  count h =
      let fits : 512 ≤ length ns = t.fits h in
      length-drop 1 (take used ns) ∙ ap (λ (n : ℕ). n - 1) (length-take-le used ns (omega (arith, t.few)))

  -- whether a record hangs there
  abbrev hangs : Record → Bool
  hangs r = r.parent == under && r.letter == a

  pub child_missing : None ≡ position (λ (r : Record). r.parent == under && r.letter == a) (drop 1 (take used ns)) → (j : ℕ) → 0 < j → j < used → (rec ns j).parent ≡ under → (rec ns j).letter ≡ a → ⊥
  child_missing e j pos h up by =
      let xs : List Record = drop 1 (take used ns) in
      let p : ℕ = position_or_len hangs xs in
      let long : length xs ≡ used - 1 = count (omega arith) in
      ⊎_elim
      (λ (l : p < length xs). let some : ◌≡◌ {A = Option ℕ} None (Some p) = e ∙ ap (λ (b : Bool). cond b (Some p) None) (lt-ltb p (length xs) l) in cc)
      (λ (g : length xs ≤ p).
      let not : hangs (rec xs (j - 1)) ≡ false = fails_before_first hangs xs (j - 1) blank (omega arith) in
      let is : hangs (rec ns j) ≡ true = and_from ((rec ns j).parent == under) ((rec ns j).letter == a) (eq-eqb (rec ns j).parent under up) (eq-eqb (rec ns j).letter a by) in
      let both : ◌≡◌ {A = Bool} false true = sym not ∙ ap hangs (at j pos h) ∙ is in cc)
      (cases_lt p (length xs))

  pub child_found : (i : ℕ) → Some i ≡ position (λ (r : Record). r.parent == under && r.letter == a) (drop 1 (take used ns)) → (0 < i + 1) × (i + 1 < used) × ((rec ns (i + 1)).parent ≡ under) × ((rec ns (i + 1)).letter ≡ a)
  child_found i e =
      let s = position-Some hangs (drop 1 (take used ns)) i blank (sym e) in
      let lt : i + 1 < used = omega (arith, s.0, length-drop 1 (take used ns), length-take used ns) in
      let here : rec (drop 1 (take used ns)) i ≡ rec ns (i + 1) = get_or_after_one (take used ns) i blank ∙ ap (rec (take used ns)) (omega arith) ∙ get_or-take used ns (i + 1) blank lt in
      let both = and_parts ((rec ns (i + 1)).parent == under) ((rec ns (i + 1)).letter == a) (ap hangs (sym here) ∙ s.1) in
      (omega arith, lt, eqb-true (rec ns (i + 1)).parent under both.0, eqb-true (rec ns (i + 1)).letter a both.1)
