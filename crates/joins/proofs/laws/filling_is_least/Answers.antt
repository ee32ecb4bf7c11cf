use Rattle.joinlaw.proofs.Fillings.{filling-law}
use Rattle.joins.proofs.laws.filling_is_least.Goals as goal

pub returns : goal.returns
returns g c = filling-law g.K.Letter.alphabet
