use Rattle.lists.proofs.Adding.{spelt_small}
use Rattle.lists.proofs.builder.Builder.add.Goals as goal

pub judge-requires : goal.judge-requires
judge-requires g c = spelt_small g.L.Letter.alphabet g.L.Letter.numbered c.of.result.first c.of.result.count c.args.pattern.now c.of.ensures

pub returns-clause-holds : goal.returns-clause-holds
returns-clause-holds g c n m ps h = c.judge.ensures.holds n m ps c.args.pattern.now c.of.ensures h
