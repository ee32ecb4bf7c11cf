-- What a row that fits, or does not, leaves. Assumes nothing.
use Rattle.std.proofs.Common.{◌≡◌, ℕ, ◌+◌, ◌<◌, ◌≤◌, leb, List, ◌++◌, length, take, drop, Ok, Err, sym, refl, ap, ◌∙◌, arith}
use borrow.Rule.Slice.PartMut.{put_mid}
use Rattle.std.proofs.lemmas.List.{append_assoc, take_all}
use Rattle.std.proofs.lemmas.Slice.{put_mid-paste}
use Rattle.std.proofs.lemmas.Bool.{le-leb, lt-leb, cond-true, cond-false}
use Rattle.faults.specs.Causes.{short_text}
use Rattle.joinlaw.specs.Bridges.{Bridge, row}
use Rattle.joins.specs.Answers.{put, put_text}

module _ {K : Type 0} (b : Bridge K) (v : List K) (at end : ℕ) (is : end ≡ at + length (row b v)) where
  pub put_fits : (room : ℕ) → end ≤ room → put b v at room ≡ Ok (record { length = end; overlap = b.overlap; filled = length b.filling })
  put_fits room le =
      cond-true (leb (at + length (row b v)) room) _ (Err (short_text (at + length (row b v)))) (le-leb (at + length (row b v)) room (omega arith))
      ∙ ap (λ n. Ok (record { length = n; overlap = b.overlap; filled = length b.filling })) (sym is)

  pub put_short : (room : ℕ) → room < end → put b v at room ≡ Err (short_text end)
  put_short room lt =
      cond-false (leb (at + length (row b v)) room) (Ok (record { length = at + length (row b v); overlap = b.overlap; filled = length b.filling })) _ (lt-leb (at + length (row b v)) room (omega arith))
      ∙ ap (λ n. Err (short_text n)) (sym is)

  pub put_text_fits : (text : List K) → end ≤ length text → put_text b v at text ≡ take at text ++ (row b v ++ drop end text)
  put_text_fits text le =
      cond-true (leb (at + length (row b v)) (length text)) _ text (le-leb (at + length (row b v)) (length text) (omega arith))
      ∙ ap (λ n. take at text ++ (row b v ++ drop n text)) (sym is)

  pub put_text_short : (text : List K) → length text < end → put_text b v at text ≡ text
  put_text_short text lt = cond-false (leb (at + length (row b v)) (length text)) _ text (lt-leb (at + length (row b v)) (length text) (omega arith))

-- a part of a table after a write to it
pub mid_is : {K : Type 0} (a k end : ℕ) (text ys zs : List K) → ys ≡ zs → k ≡ length zs → end ≡ a + k → put_mid a k text ys ≡ take a text ++ (zs ++ drop end text)
mid_is a k end text ys zs e n is =
    put_mid-paste a k text ys zs k e refl n
    ∙ append_assoc (take a text) (take k zs) (drop (a + k) text)
    ∙ ap (λ w. take a text ++ (w ++ drop (a + k) text)) (take_all k zs (omega arith))
    ∙ ap (λ i. take a text ++ (zs ++ drop i text)) (sym is)
