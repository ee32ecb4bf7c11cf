use Rattle.std.proofs.Common.{refl}
use Rattle.std.specs.Fmt.{digits}
use Rattle.joinlaw.specs.Bridges.{bridge, filling}
use Rattle.rewritelaw.specs.Traces.{fed_letter, fed, rewritten}
use Rattle.examples.proofs.examples_hold.Goals as goal

pub returns : goal.returns
unfolding digits bridge filling fed_letter fed rewritten
returns c = (refl, (refl, (refl, (refl, (refl, (refl, (refl, (refl, (refl, (refl, (refl, (refl, (refl, (refl, (refl, tt)))))))))))))))
