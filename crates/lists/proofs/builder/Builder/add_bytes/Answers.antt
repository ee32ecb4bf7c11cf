use Rattle.texts.specs.Texts.{reading, spelled}
use Rattle.lists.proofs.Adding.{spelt_small}
use Rattle.lists.proofs.builder.Builder.add_bytes.Goals as goal

pub judge-requires : goal.judge-requires
judge-requires g c =
    let s = c.in_ok-read.ensures in
    spelt_small g.L.Letter.alphabet g.L.Letter.numbered c.in_ok-read.field-0.first c.in_ok-read.field-0.count (spelled (reading g.L.Letter.alphabet g.L.Printable.parsed) c.args.bytes.now) s.1

pub returns-clause-holds : goal.returns-clause-holds
returns-clause-holds g c n m ps h =
    let s = c.in_ok-read.ensures in
    c.judge.ensures.holds n m ps (spelled (reading g.L.Letter.alphabet g.L.Printable.parsed) c.args.bytes.now) s.1 h
