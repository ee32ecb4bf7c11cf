use Rattle.joinlaw.proofs.Joins.{join-law}
use Rattle.joins.proofs.laws.join_is_least.Goals as goal

pub returns : goal.returns
returns g c = join-law g.K.Letter.alphabet g.K.Letter.numbered
