use Rattle.std.proofs.Common.{refl}
use Rattle.pages.proofs.Writes.{wrote_then}
use Rattle.headings.proofs.show_named.Goals as goal

pub returns : goal.returns
returns g c = wrote_then _ refl c.put.ensures (wrote_then _ refl c.show_alphabet.ensures c.push.ensures)
