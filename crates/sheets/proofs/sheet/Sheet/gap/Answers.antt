use Rattle.std.proofs.Common.{◌<◌, ◌≤◌, ◌∷◌, Ok, sym, refl, ◌∙◌, subst, arith}
use Rattle.sheetlaw.specs.Calls.{gap}
use Rattle.sheetlaw.specs.Law.{Followed}
use Rattle.sheetlaw.specs.NextRow.{row_of}
use Rattle.sheetlaw.proofs.Cases.{pauses-full, pauses-early, gap-full, gap-early}
use Rattle.sheetlaw.proofs.NextRows.{after-gap}
use Rattle.sheets.specs.Views.{contents}
use Rattle.sheets.proofs.sheet.Sheet.gap.Goals as goal

pub returns-then-self-ge-MOST : goal.returns-then-self-ge-MOST
returns-then-self-ge-MOST g c =
    let s = contents c.args.self.now in
    let h : 50000 ≤ c.args.self.now.taken = omega arith in
    let a = sym (pauses-full s h) in
    record {
      answers = a;
      leaves = gap-full s h;
      keeps = (refl, refl);
      stands = λ t0 h' t past. after-gap g.S.Kind.Letter.alphabet g.S.Kind.Letter.numbered _ (g.S.Automaton.lawful _) _ t0 h' s t past _ _ a (gap-full s h);
    }

pub returns : goal.returns
returns g c =
    let A = g.S.Kind.Letter.alphabet in
    let M = g.S.Automaton.model in
    let now = c.args.self.now in
    let then = c.advance.new.self in
    let s = contents now in
    let h : now.taken < 50000 = omega arith in
    let a = sym (pauses-early s h) in
    let l = c.advance.ensures.leaves ∙ gap-early s h in
    let e = c.advance.ensures.keeps in
    record {
      answers = a;
      leaves = l;
      keeps = e;
      stands = λ t0 h' t past.
          subst (λ v. Followed (M v) A.number then.k (row_of A (M v)) t0 (gap (Ok tt) ∷ h') (contents then) t) (sym e.1)
          (subst (λ i. Followed (M now.automaton) A.number i (row_of A (M now.automaton)) t0 (gap (Ok tt) ∷ h') (contents then) t) (sym e.0)
          (after-gap A g.S.Kind.Letter.numbered (M now.automaton) (g.S.Automaton.lawful _) now.k t0 h' s t past _ _ a l));
    }
