use Rattle.std.proofs.Common.{◌≡◌, ◌++◌, length, sym, ap, ◌∙◌, append-nil, arith}
use Rattle.std.proofs.lemmas.List.{drop_all}
use Rattle.joins.specs.Queue.{by}
use Rattle.joins.specs.Spelling.{numbers, spelling}
use Rattle.joins.proofs.Traces.{spelled-on, spelled-turn, letter-some, length-spelling}
use Rattle.joins.proofs.trails.Trail.spell.Goals as goal
use Rattle.joins.proofs.trails.Trail.spell.Goals.{in-Some, in_default}

pub loop-left-init : goal.loop-left-init
loop-left-init g c =
    let p = by c.args.self.parents.now in
    let l = by c.args.self.letters.now in
    let out = c.args.out.now in
    let z = spelling g.K.Letter.alphabet.letter p l c.args.self.place in
    let spells = c.requires.spells in
    let n = length-spelling g.K.Letter.alphabet.letter p l c.args.self.place spells.traced in
    let long = spells.long in
    let room = c.requires.room in
    let is : length out ≡ length (numbers p l c.args.self.place) = omega arith in
    record { within = omega arith; left_is = is; fits = omega arith; whole = sym (ap (λ w. z ++ w) (drop_all (length out) out (omega arith)) ∙ append-nil z) }

pub loop-left-preserved : goal.loop-left-preserved
loop-left-preserved g c =
    let l = c.loop-left in
    let traced = c.requires.spells.traced in
    let on = spelled-on _ _ _ c.args.self.place traced l.at l.left l.out l.invariant c.loop-left-test.true in
    elim c.match-from_number.branch [
      | in-Some w ↦ rw w.out-is (spelled-turn _ _ _ c.args.self.place traced l.at l.left l.out w.in-Some.letter l.invariant on (sym w.in-Some.ensures))
      | in_default w ↦ absurd (letter-some _ _ _ c.args.self.place traced l.at on l.invariant.within (sym w.in_default.ensures))
    ]
