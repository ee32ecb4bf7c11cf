-- The words of one state. Assumes nothing.
use Rattle.std.proofs.Common.{◌≡◌, ℕ, ◌+◌, ◌-◌, ◌*◌, ◌<◌, ◌≤◌, List, length, get_or, set, take, drop, length-drop, sym, ap, ◌∙◌, inl, inr, ⊎_elim, arith}
use native.Mathlib.Decide.{ℕ_discrete}
use Rattle.std.proofs.lemmas.Nat.{div-add-mod'}
use Rattle.std.proofs.lemmas.List.{get_or-set_same, get_or-set_other, get_or-take, length-take-le}
use Rattle.std.proofs.lemmas.Grind.{get_or_after_one}
use Rattle.std.proofs.lemmas.Bool.{cases_lt}
use Rattle.lists.specs.declared.record.Record.{Record}
use Rattle.lists.specs.Names.{blank, rec}
use Rattle.lists.specs.Lists.{columns}
use Rattle.lists.specs.Links.{Others, Planted}

pub column-room : (words : List ℕ) (a q : ℕ) → a < columns words → q < 512 → a * 512 + q < length words
column-room words a q h l = omega (arith, div-add-mod' (length words) 512)

module _ (words : List ℕ) (a q v : ℕ) (room : a * 512 + q < length words) (small : q < 512) where
  pub write_same : get_or (set words (a * 512 + q) v) (a * 512 + q) 0 ≡ v
  write_same = get_or-set_same words (a * 512 + q) v 0 room

  pub write-letter : (b : ℕ) → (b ≡ a → ⊥) → get_or (set words (a * 512 + q) v) (b * 512 + q) 0 ≡ get_or words (b * 512 + q) 0
  write-letter b ne = get_or-set_other words (a * 512 + q) (b * 512 + q) v 0 (λ e. ne (omega arith))

  pub write-state : (b s : ℕ) → s < 512 → (s ≡ q → ⊥) → get_or (set words (a * 512 + q) v) (b * 512 + s) 0 ≡ get_or words (b * 512 + s) 0
  write-state b s l ne = get_or-set_other words (a * 512 + q) (b * 512 + s) v 0 (λ e. ne (omega arith))

  pub others_write : (old : List ℕ) → Others old words q → Others old (set words (a * 512 + q) v) q
  others_write old o b s l ne = write-state b s l ne ∙ o b s l ne

-- the states but the first
pub others_long : (ns : List Record) (used : ℕ) → 1 ≤ used → used ≤ length ns → length (take (used - 1) (drop 1 ns)) ≡ used - 1
others_long ns used some fits = length-take-le (used - 1) (drop 1 ns) (omega (arith, length-drop 1 ns))

pub others_at : (ns : List Record) (used j : ℕ) → j + 1 < used → rec (take (used - 1) (drop 1 ns)) j ≡ rec ns (j + 1)
others_at ns used j lt = get_or-take (used - 1) (drop 1 ns) j blank (omega arith) ∙ get_or_after_one ns j blank ∙ ap (rec ns) (omega arith)

module _ (ns : List Record) (old words : List ℕ) (q j a : ℕ) (before : Planted ns old words q j a) where
  -- the record at j is no child of q
  pub plant_skip : ((rec ns j).parent ≡ q → ⊥) → Planted ns old words q (j + 1) a
  plant_skip ne = ⊎_elim
      (λ h. inl (h.0, h.1, omega (arith, h.2), h.3, h.4, h.5))
      (λ h. inr ((λ i pos lt up by. ⊎_elim (λ k. h.0 i pos k up by) (λ k. let e : i ≡ j = omega arith in ne (ap (λ (n : ℕ). (rec ns n).parent) (sym e) ∙ up)) (cases_lt i j)), h.1))
      before

  -- it is one
  pub plant_child : 0 < j → (rec ns j).parent ≡ q → (rec ns j).letter * 512 + q < length words → q < 512 → Planted ns old (set words ((rec ns j).letter * 512 + q) j) q (j + 1) a
  plant_child pos up room small = go (ℕ_discrete a (rec ns j).letter)
    where
      go : Dec (a ≡ (rec ns j).letter) → Planted ns old (set words ((rec ns j).letter * 512 + q) j) q (j + 1) a
      go (yes e) = inl (j, pos, omega arith, up, sym e, ap (λ (n : ℕ). get_or (set words ((rec ns j).letter * 512 + q) j) (n * 512 + q) 0) e ∙ write_same words (rec ns j).letter q j room small)
      go (no ne) =
          let same = write-letter words (rec ns j).letter q j room small a ne in
          ⊎_elim
          (λ h. inl (h.0, h.1, omega (arith, h.2), h.3, h.4, same ∙ h.5))
          (λ h. inr ((λ i p lt u by. ⊎_elim (λ k. h.0 i p k u by) (λ k. let e : i ≡ j = omega arith in ne (sym by ∙ ap (λ (n : ℕ). (rec ns n).letter) e)) (cases_lt i j)), same ∙ h.1))
          before
