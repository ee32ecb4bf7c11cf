use Rattle.std.proofs.Common.{◌≡◌, ◌+◌, ◌-◌, ◌≤◌, [], length, take, drop, ap, ◌∙◌, arith, rules}
use Rattle.std.proofs.lemmas.List.{take_rest, take_all, nil_from_length, drop_all, length-drop}
use Rattle.files.specs.Lines.{lines}
use Rattle.files.proofs.Cuts.{lines_cut, lines-whole}
use Rattle.files.proofs.lines.Lines.take_line.Goals.{then-n-s, else-n-s}
use Rattle.files.proofs.lines.Lines.take_line.Goals as goal

pub returns-then-s-eq0 : goal.returns-then-s-eq0
returns-then-s-eq0 c =
    let s = c.args.self.now.rest.now in
    let z : length s ≡ 0 = omega arith in
    record { lines = ap lines (nil_from_length s z); shorter = z; number = search rules }

pub returns : goal.returns
returns c =
    let s = c.args.self.now.rest.now in
    let n = c.line_len-n.result in
    let z : n - 0 ≡ n = omega arith in
    elim c.if-n-s.branch [
      | then-n-s w ↦
          let h : c.if-n-s.self.now ≡ drop (n + 1) s = ap (λ x. x.now) w.self-is ∙ take_rest s (n + 1) in
          let e = lines_cut n s w.if-n-s.true c.line_len-n.ensures.before (c.line_len-n.ensures.found w.if-n-s.true) in
          record { lines = simp (z, h) e; shorter = omega (arith, ap length h, length-drop (n + 1) s, w.if-n-s.true); number = search rules }
      | else-n-s w ↦
          let all : length s ≤ n = w.if-n-s.false in
          let t : take n s ≡ s = take_all n s all in
          let h : c.if-n-s.self.now ≡ [] = (ap (λ x. x.now) w.self-is ∙ take_rest s n) ∙ drop_all n s all in
          let e = lines-whole s (omega arith) (λ k l. c.line_len-n.ensures.before k (omega arith)) in
          record { lines = simp (z, t, h) e; shorter = simp h (omega arith); number = search rules }
    ]
