use Rattle.joins.specs.Queue.{by}
use Rattle.joins.proofs.Traces.{Spelled}
use Rattle.joins.proofs.trails.Trail.spell.Given as goal

abbrev pub invariant-loop-left : goal.invariant-loop-left
invariant-loop-left g l = Spelled g.K.Letter.alphabet.letter (by l.self.parents.now) (by l.self.letters.now) l.self.place l.at l.left l.out
