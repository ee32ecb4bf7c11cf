-- An empty list. Assumes nothing.
use Rattle.std.proofs.Common.{◌≡◌, ℕ, ◌≤◌, false, List, [], length, refl, ap, ◌∙◌, arith}
use Rattle.std.proofs.lemmas.Bool.{both_ways}
use Rattle.lists.specs.declared.record.Record.{Record}
use Rattle.lists.specs.Names.{rec}
use Rattle.lists.specs.Lists.{bit, Lists}
use Rattle.lists.proofs.Spelling.{names_one}
use Rattle.lists.proofs.Bitwise.{bit_zero}

pub lists-none : (ns : List Record) → (512 ≤ length ns → (rec ns 0).ends ≡ 0) → Lists ns 1 0 0 []
lists-none ns bare = record {
  names = names_one ns;
  count = refl;
  extent = refl;
  solid = λ p h. absurd (both_ways false refl h);
  marks = λ long q a h l. let e : q ≡ 0 = omega arith in ap (λ (k : ℕ). bit (rec ns k).ends a) e ∙ ap (λ (m : ℕ). bit m a) (bare long) ∙ bit_zero a;
}
