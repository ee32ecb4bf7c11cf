use Rattle.listlaw.proofs.Standings.{words_stand_lem}
use Rattle.listlaw.proofs.words_stand.Goals as goal

pub returns : goal.returns
returns c = words_stand_lem
