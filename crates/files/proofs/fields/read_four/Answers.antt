use Rattle.std.proofs.Common.{◌≡◌, ◌+◌, true, eqb, length, get_or, take, drop, fold, Some, None, sym, refl, ap, ◌∙◌, arith, take-append-drop}
use Rattle.std.proofs.lemmas.Bool.Decides.{nat_tests}
use Rattle.std.proofs.lemmas.List.Sums.{fold_more, fold-append}
use Rattle.std.proofs.lemmas.List.Folds.{fold_stays}
use Rattle.files.specs.Fields.{onward}
use Rattle.files.proofs.fields.read_four.Goals as goal

pub returns-in_err-read : goal.returns-in_err-read
returns-in_err-read c =
    let s = c.args.s.now in
    let i = c.loop-b.b-index in
    let broken : fold onward (Some None) (take (i + 1) s) ≡ None = fold_more onward (Some None) s i 0 c.loop-b-test.true ∙ ap (λ f. onward f (get_or s i 0)) (sym c.loop-b.invariant.0) ∙ sym c.column.ensures ∙ c.in_err-read.was in
    let whole : fold onward (Some None) s ≡ None = ap (fold onward (Some None)) (sym (take-append-drop (i + 1) s)) ∙ fold-append onward (Some None) (take (i + 1) s) (drop (i + 1) s) ∙ ap (λ f. fold onward f (drop (i + 1) s)) broken ∙ fold_stays onward None (λ x. refl) (drop (i + 1) s) in
    let four : eqb (length s) 4 ≡ true = grind (arith, nat_tests) in
    c.from_residual.ensures ∙ rw (four, whole)
