use Rattle.std.proofs.Common.{◌==◌, sym, ◌∙◌, rules, tests}
use Rattle.std.proofs.lemmas.Bool.{ne_eqb}
use Rattle.std.proofs.lemmas.Iterator.{YieldsList-from_slice, YieldsList-from_zip}
use Rattle.std.proofs.lemmas.Iterator.Search.{all_from_yields_List}
use Rattle.joins.proofs.Merging.{same_zip, same_length}
use Rattle.joins.proofs.overlaps.same.Goals as goal

pub returns-then-a-b : goal.returns-then-a-b
returns-then-a-b g c =
    let number = g.K.Letter.alphabet.number in
    let a = c.args.a.now in
    let b = c.args.b.now in
    all_from_yields_List (λ p. number p.0 == number p.1) c.all.new.self _ c.all.result c.all.ensures.ran
    (YieldsList-from_zip (YieldsList-from_slice a cc) (YieldsList-from_slice b cc))
    (λ x r q k. search (rules, tests))
    ∙ same_zip number a b c.if-a-b.true

pub returns-else-a-b : goal.returns-else-a-b
returns-else-a-b g c = ne_eqb _ _ c.if-a-b.false ∙ sym (same_length g.K.Letter.alphabet.number c.args.a.now c.args.b.now c.if-a-b.false)
