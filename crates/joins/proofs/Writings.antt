-- What a bridge that was found appends. Assumes nothing.
use Rattle.std.proofs.Common.{◌≡◌, ℕ, ◌+◌, ◌≤◌, List, length, Ok, Result, sym, refl, ap, ◌∙◌, arith, ◌^◌, ◌<◌}
use Rattle.std.proofs.lemmas.List.{length-append, length-drop}
use Rattle.faults.specs.declared.Fault.{Fault}
use Rattle.models.specs.Alphabet.{Alphabet}
use Rattle.joinlaw.specs.Bridges.{row}
use Rattle.joins.specs.Queue.{by}
use Rattle.joins.specs.Spelling.{spelling}
use Rattle.joins.specs.Ways.{told, added, joined, Short, Fit, Within}
use Rattle.joins.specs.declared.answers.Joined.{Joined}
use Rattle.joins.specs.declared.ways.Way.{Way}
use Rattle.joins.specs.declared.ways.Way.TheVariants.{Overlap, Filling}

module _ {K : Type 0} (A : Alphabet K) (v : List K) where
  filled-told : (w : Way) → Fit A (length v) w → (n : ℕ) → (joined n w).filled ≡ length (told A w).filling
  filled-told (Overlap o) f n = refl
  filled-told (Filling t) f n = f.long

  overlap-told : (w : Way) → (n : ℕ) → (joined n w).overlap ≡ (told A w).overlap
  overlap-told (Overlap o) n = refl
  overlap-told (Filling t) n = refl

  pub added-row : (w : Way) → Fit A (length v) w → added (length v) w ≡ length (row (told A w) v)
  added-row (Overlap o) f = sym (length-drop o v)
  added-row (Filling t) f =
      ap (λ j. j + length v) (filled-told (Filling t) f 0) ∙ sym (length-append (spelling A.letter (by t.parents.now) (by t.letters.now) t.place) v)

  -- an answer with the overlap and the filled letters of what was found has those of the bridge
  pub joined-told : (w : Way) → Fit A (length v) w → (n : ℕ) (r : Joined) → r.length ≡ n → r.overlap ≡ (joined n w).overlap → r.filled ≡ (joined n w).filled
      → ◌≡◌ {A = Result Joined Fault} (Ok r) (Ok (record { length = n; overlap = (told A w).overlap; filled = length (told A w).filling }))
  joined-told w fit n r en eo ef =
      ap (λ i. Ok (record { length = i; overlap = r.overlap; filled = r.filled })) en
      ∙ ap (λ i. Ok (record { length = n; overlap = i; filled = r.filled })) (eo ∙ overlap-told w n)
      ∙ ap (λ i. Ok (record { length = n; overlap = (told A w).overlap; filled = i })) (ef ∙ filled-told w fit n)

  -- at most so many letters
  pub added-few : (n : ℕ) (w : Way) → Fit A (length v) w → Within n w → added (length v) w ≤ n + length v
  added-few n (Overlap o) f i = omega arith
  added-few n (Filling t) f i = omega (arith, f.few, i)

  pub fit_short : (w : Way) → Fit A (length v) w → added (length v) w < 2 ^ 63 → Short (length v) w
  fit_short (Overlap o) f lt = f
  fit_short (Filling t) f lt = lt
