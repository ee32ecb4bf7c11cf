use Rattle.std.proofs.Common.{refl}
use Rattle.pages.proofs.Writes.{wrote_then}
use Rattle.headings.proofs.Heading.show.Goals as goal

pub returns : goal.returns
returns c = wrote_then _ refl c.show_kind.ensures (wrote_then _ refl c.labelled.ensures c.show_limit.ensures)
