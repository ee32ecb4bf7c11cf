use Rattle.std.proofs.Common.{◌≡◌, ◌-◌, ◌*◌, ◌<◌, ◌≤◌, ltb, ◌∷◌, ◌++◌, length, take, drop, replicate, Err, sym, refl, ap, ◌∙◌, subst, arith}
use Rattle.std.proofs.lemmas.List.{length-take-le}
use Rattle.std.proofs.lemmas.Bool.{cond-true, cond-false, lt-ltb, le-ltb}
use Rattle.faults.specs.Causes.{short_work}
use Rattle.sheetlaw.specs.Calls.{letter}
use Rattle.sheetlaw.specs.Step.{needs, decide, said, if_taken, carry, append}
use Rattle.sheetlaw.specs.Law.{Followed}
use Rattle.sheetlaw.specs.NextRow.{row_of}
use Rattle.sheetlaw.proofs.Cases.{decide_short, decide_enough}
use Rattle.sheetlaw.proofs.NextRows.{after-letter}
use Rattle.sheets.specs.Views.{contents}
use Rattle.sheets.proofs.sheet.Sheet.letter.Goals as goal

pub returns-then-work-needed : goal.returns-then-work-needed
returns-then-work-needed g c =
    let A = g.S.Kind.Letter.alphabet in
    let m = g.S.Automaton.model c.args.self.now.automaton in
    let k = c.args.self.now.k in
    let s = contents c.args.self.now in
    let work = c.args.work.now in
    let t = c.args.text.now in
    let h : length work < needs m = omega arith in
    let d = decide_short m k (row_of A m) (length work) (length t) s c.args.letter h in
    let e = ap (λ n. Err (short_work (4 * n))) c.states.ensures in
    let a = e ∙ sym (ap (said k) d) in
    let l = sym (ap (λ o. if_taken o (carry k s c.args.letter) s) d) in
    let w = sym (ap (λ o. if_taken o (append s t) t) d) in
    let z = sym (cond-true (ltb (length work) (needs m)) work _ (lt-ltb (length work) (needs m) h)) in
    record {
      answers = a;
      leaves = l;
      writes = w;
      work = z;
      keeps = (refl, refl);
      stands = λ t0 h' past. after-letter A g.S.Kind.Letter.numbered m (g.S.Automaton.lawful _) k t0 h' s t past c.args.letter work _ _ _ _ a z l w;
    }

pub returns : goal.returns
returns g c =
    let A = g.S.Kind.Letter.alphabet in
    let M = g.S.Automaton.model in
    let m = M c.args.self.now.automaton in
    let k = c.args.self.now.k in
    let s = contents c.args.self.now in
    let x = c.args.letter in
    let work = c.args.work.now in
    let t = c.args.text.now in
    let row = row_of A m in
    let then = c.within.new.self in
    let q = c.states.ensures in
    let h : needs m ≤ length work = omega arith in
    let p : 4 * c.states.result - 0 ≡ needs m = omega arith in
    let n : length (take (4 * c.states.result - 0) work) ≡ needs m = ap (λ i. length (take i work)) p ∙ length-take-le (needs m) work h in
    let d = ap (λ i. decide m k row i (length t) s x) n ∙ sym (decide_enough m k row (length work) (length t) s x h) in
    let a = c.within.ensures.answers ∙ ap (said k) d in
    let l = c.within.ensures.leaves ∙ ap (λ o. if_taken o (carry k s x) s) d in
    let w = c.within.ensures.writes ∙ ap (λ o. if_taken o (append s t) t) d in
    let z = ap (λ v. v ++ drop (4 * c.states.result - 0) work) (c.within.ensures.words ∙ ap (λ i. replicate i 0) n) ∙ ap (λ i. replicate (needs m) 0 ++ drop i work) p ∙ sym (cond-false (ltb (length work) (needs m)) work _ (le-ltb (length work) (needs m) h)) in
    let e = c.within.ensures.keeps in
    let left = c.within.new.words ++ drop (4 * c.states.result - 0) work in
    record {
      answers = a;
      leaves = l;
      writes = w;
      work = z;
      keeps = e;
      stands = λ t0 h' past.
          subst (λ v. Followed (M v) A.number then.k (row_of A (M v)) t0 (letter x work c.within.result left ∷ h') (contents then) c.within.new.text) (sym e.1)
          (subst (λ i. Followed m A.number i row t0 (letter x work c.within.result left ∷ h') (contents then) c.within.new.text) (sym e.0)
          (after-letter A g.S.Kind.Letter.numbered m (g.S.Automaton.lawful _) k t0 h' s t past x work _ _ _ _ a z l w));
    }
