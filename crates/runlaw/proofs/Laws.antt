-- The run automaton is lawful over any alphabet. Assumes nothing.
use Rattle.std.proofs.Common.{◌≡◌, ℕ, ◌+◌, ◌*◌, ◌≤◌, None, arith}
use Rattle.std.proofs.lemmas.Bool.Decides.{nat_tests}
use Rattle.models.specs.Alphabet.{Alphabet, Numbered}
use Rattle.models.specs.Automaton.{Lawful}
use Rattle.models.proofs.ByNumber.{parts-by, forgets-by}
use Rattle.runlaw.specs.Runs.{run_next, run_model}
use Rattle.runlaw.proofs.Trail.{few, stays, parts, forgets}

run-off : (r c q a : ℕ) → 1 + r * c ≤ q → run_next r c q a ≡ None
run-off r c q a h = grind (arith, nat_tests)

pub run-lawful : {K : Type 0} (A : Alphabet K) → Numbered A → (r : ℕ) → 1 ≤ r → r ≤ 8 → Lawful (run_model A r)
run-lawful A N r l m = record {
  some = omega arith;
  few = few r A.size m N.few;
  begins = omega arith;
  stays = λ q a t e. stays r A.size q (A.number a) t l e;
  off = λ q a h. run-off r A.size q (A.number a) h;
  parts = parts-by A.number (run_next r A.size) 0 (parts r A.size l);
  forgets = forgets-by A.number (run_next r A.size) 0 r (forgets r A.size l);
}
