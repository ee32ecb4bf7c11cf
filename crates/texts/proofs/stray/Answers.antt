use Rattle.std.proofs.Common.{not, is_some, rules, tests, ◌∙◌}
use Rattle.std.proofs.lemmas.Iterator.{YieldsList-from_slice}
use Rattle.std.proofs.lemmas.Iterator.Search.{position_from_yields_List}
use Rattle.texts.specs.Texts.{reading}
use Rattle.texts.proofs.Strays.{stray-position}
use Rattle.texts.proofs.stray.Goals as goal

pub returns : goal.returns
returns g c =
    let reads = reading g.L.Letter.alphabet g.L.Printable.parsed in
    position_from_yields_List (λ b. not (is_some (reads b))) _ _ c.position.result c.position.ensures.ran (YieldsList-from_slice _ c.iter.ensures.rest) (λ x b q k. search (rules, tests)) ∙ stray-position reads c.args.bytes.now
