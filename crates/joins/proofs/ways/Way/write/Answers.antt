use Rattle.std.proofs.Common.{◌≡◌, ◌+◌, ◌-◌, length, drop, ◌∙◌, arith}
use Rattle.std.proofs.lemmas.List.{length-drop, length-take-le}
use Rattle.joinlaw.specs.Bridges.{row}
use Rattle.joins.specs.Ways.{told, added}
use Rattle.joins.proofs.Puts.{mid_is}
use Rattle.joins.proofs.Writings.{added-row}
use Rattle.joins.proofs.ways.Way.write.Goals as goal

pub fill-requires : goal.fill-requires
fill-requires g c =
    let text = c.args.text.now in
    let at = c.args.at in
    let end = c.args.end in
    let is = c.requires.room.0 in
    let fits = c.requires.room.1 in
    let n = length-drop at text in
    let part = length-take-le (end - at) (drop at text) (omega arith) in
    record { fit = c.requires.fit; room = part ∙ (let z : end - at ≡ added (length c.args.right.now) c.args.self = omega arith in z) }

pub returns : goal.returns
returns g c =
    let v = c.args.right.now in
    let r = row (told g.K.Letter.alphabet c.args.self) v in
    let is = c.requires.room.0 in
    let long = added-row g.K.Letter.alphabet v c.args.self c.requires.fit in
    let end : c.args.at + length r ≡ c.args.end = omega arith in
    mid_is c.args.at _ (c.args.at + length r) c.args.text.now c.fill.new.out r c.fill.ensures (omega arith) (omega arith)
