use Rattle.std.proofs.Common.{refl}
use Rattle.pages.proofs.Writes.{wrote_then}
use Rattle.stepping.proofs.report.show_counts.Goals as goal

pub returns : goal.returns
returns c = wrote_then _ refl c.labelled.ensures (wrote_then _ refl c.labelled-2.ensures (wrote_then _ refl c.labelled-3.ensures (wrote_then _ refl c.labelled-4.ensures c.labelled-5.ensures)))
