use Rattle.std.proofs.Common.{◌≡◌, ℕ, ◌+◌, ◌<◌, List, length, sym, ◌∙◌, subst, arith}
use Rattle.listlaw.specs.Patterns.{Word}
use Rattle.lists.specs.declared.links.Links.{Links}
use Rattle.lists.specs.Names.{names}
use Rattle.lists.specs.Linked.{word, Linked, Ended, Kept}
use Rattle.lists.proofs.Spelling.{names-first}
use Rattle.lists.proofs.Levels.{shape_by, endings_by, skip_back, skip_on, next_back, next_on}
use Rattle.lists.proofs.links.Links.level.Goals as goal
use Rattle.lists.proofs.links.Links.level.Goals.{then-self-q, else-self-q}

-- what the turns so far show of the tables that they leave
Turn : Links → Links → ℕ → ℕ → Type 0
Turn a b d i = Kept a b × Linked b d i × ((ps : List Word) → Ended a d 1 ps → Ended b d i ps)

pub loop-q-preserved : goal.loop-q-preserved
unfolding Turn
loop-q-preserved c =
    let l = c.loop-q.self in
    let ns = l.tree.records.now in
    let words = l.words.now in
    let u = l.tree.used in
    let d = c.args.d in
    let q = c.loop-q.q in
    let i = c.loop-q.invariant in
    let lt : q < u = omega (arith, i.0.0) in
    let deep = l.tree.deep q (omega arith) lt in
    elim c.if-self-q.branch [
      | then-self-q v ↦
          (let e : length (word l q) ≡ d = sym deep ∙ v.if-self-q.true in
          let m = v.settle.new.self in
          let kept : Kept c.args.self.now m = (v.settle.ensures.kept.0 ∙ i.0.0, v.settle.ensures.kept.1 ∙ i.0.1, v.settle.ensures.kept.2 ∙ i.0.2) in
          let turn : Turn c.args.self.now m d (q + 1) = (
            kept,
            subst (λ (n : ℕ). Linked m n (q + 1)) e v.settle.ensures.linked,
            λ ps h. subst (λ (n : ℕ). Ended l n q ps → Ended m n (q + 1) ps) e (v.settle.ensures.ended ps) (i.2 ps h),
          ) in
          subst (λ (b : Links). Turn c.args.self.now b d (q + 1)) (sym v.self-is) turn)
      | else-self-q v ↦
          (let ne : length (word l q) ≡ d → ⊥ = λ e. v.if-self-q.false (deep ∙ e) in
          let turn : Turn c.args.self.now l d (q + 1) = (
            i.0,
            shape_by ns words u d q d (q + 1) (λ x h. skip_back (names ns u) d q ne x) i.1,
            λ ps h. endings_by ns words u d q d (q + 1) (λ x k. skip_back (names ns u) d q ne x) (λ x k. skip_on (names ns u) d q x) ps (i.2 ps h),
          ) in
          subst (λ (b : Links). Turn c.args.self.now b d (q + 1)) (sym v.self-is) turn)
    ]

pub returns : goal.returns
returns c =
    let l = c.loop-q.self in
    let ns = l.tree.records.now in
    let words = l.words.now in
    let u = l.tree.used in
    let d = c.args.d in
    let q = c.loop-q.q in
    let i = c.loop-q.invariant in
    let back = next_back (names ns u) (names-first ns u) d q u (omega (arith, i.0.0)) in
    record {
      kept = i.0;
      linked = shape_by ns words u d q (d + 1) 1 back i.1;
      ended = λ ps h. endings_by ns words u d q (d + 1) 1 back (λ x k. next_on (names ns u) d q x) ps (i.2 ps h);
    }
