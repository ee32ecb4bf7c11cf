use Rattle.joinlaw.proofs.Joins.{join_once}
use Rattle.joins.proofs.laws.join_is_the_one.Goals as goal

pub returns : goal.returns
returns g c = join_once g.K.Letter.alphabet g.K.Letter.numbered
