use Rattle.std.proofs.Common.{◌≡◌, ℕ, ◌+◌, ◌*◌, ◌<◌, List, length, set, sym, ap, ◌∙◌, subst, arith}
use Rattle.lists.specs.declared.record.Record.{Record}
use Rattle.lists.specs.Names.{rec}
use Rattle.lists.specs.Lists.{columns}
use Rattle.lists.specs.Links.{Others, Planted}
use Rattle.lists.proofs.Rows.{column-room, others_long, others_at, plant_skip, plant_child, others_write}
use Rattle.lists.proofs.links.plant.Goals as goal
use Rattle.lists.proofs.links.plant.Goals.{then-record-q, else-record-q}

pub loop-j-preserved : goal.loop-j-preserved
loop-j-preserved c =
    let t = c.args.tree.now in
    let ns = t.records.now in
    let old = c.args.words.now in
    let w = c.loop-j.words in
    let q = c.args.q in
    let j : ℕ = c.loop-j.j + 1 in
    let small = c.requires.room.1 in
    let long = others_long ns t.used t.some (omega (arith, t.few, c.requires.room.0)) in
    let lt : j < t.used = omega arith in
    let is = others_at ns t.used c.loop-j.j lt in
    let Both : List ℕ → Type 0 = λ l. ((a : ℕ) → a < columns old → Planted ns old l q (j + 1) a) × Others old l q in
    elim c.if-record-q.branch [
      | then-record-q v ↦
          (let letter : (rec ns j).letter < columns old = c.requires.small j (omega arith) lt in
          let room : (rec ns j).letter * 512 + q < length w = omega (arith, column-room old (rec ns j).letter q letter small) in
          let up : (rec ns j).parent ≡ q = ap (λ (m : Record). m.parent) (sym is) ∙ v.if-record-q.true in
          subst Both (sym v.words-is) (subst (λ (m : Record). Both (set w (m.letter * 512 + q) j)) (sym is) (
            (λ a h. plant_child ns old w q j a (c.loop-j.invariant.0 a h) (omega arith) up room small),
            others_write w (rec ns j).letter q j room small old c.loop-j.invariant.1,
          )))
      | else-record-q v ↦
          subst Both (sym v.words-is) ((λ a h. plant_skip ns old w q j a (c.loop-j.invariant.0 a h) (λ up. v.if-record-q.false (ap (λ (m : Record). m.parent) is ∙ up))), c.loop-j.invariant.1)
    ]
