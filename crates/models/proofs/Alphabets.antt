-- Laws of alphabets. Assumes nothing.
use Rattle.std.proofs.Common.{◌≡◌, Some, sym, ap, ◌∙◌}
use Rattle.models.specs.Alphabet.{Alphabet}

same_some : {K : Type 0} {x y : K} → Some x ≡ Some y → x ≡ y
same_some e = cc

-- letters that their numbers give back are the same where their numbers are
pub apart-given : {K : Type 0} (A : Alphabet K) → ((x : K) → A.letter (A.number x) ≡ Some x) → (x y : K) → A.number x ≡ A.number y → x ≡ y
apart-given A given x y e = same_some (sym (given x) ∙ ap A.letter e ∙ given y)
