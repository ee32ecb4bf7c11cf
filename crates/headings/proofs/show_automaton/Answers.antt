use Rattle.std.proofs.Common.{refl}
use Rattle.pages.proofs.Writes.{wrote_then}
use Rattle.headings.proofs.show_automaton.Goals as goal

pub returns : goal.returns
returns c = wrote_then _ refl c.labelled.ensures c.labelled-2.ensures
