use Rattle.std.proofs.Common.{refl}
use Rattle.pages.proofs.Writes.{wrote_then}
use Rattle.checks.proofs.report.Report.show.Goals as goal

pub returns : goal.returns
returns c = wrote_then _ refl c.show.ensures (wrote_then _ refl c.show_automaton.ensures c.show_text.ensures)
