use Rattle.joinlaw.proofs.NextRows.{next_row-law}
use Rattle.joins.proofs.laws.next_row_is_least.Goals as goal

pub returns : goal.returns
returns g c = next_row-law g.K.Letter.alphabet g.K.Letter.numbered
