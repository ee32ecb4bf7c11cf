use Rattle.std.proofs.Common.{sym, ap, ◌∙◌, take_all}
use Rattle.models.specs.Automaton.{walk}
use Rattle.models.proofs.Walks.{walk_more, stops-here, stops-none}
use Rattle.automata.proofs.stop_place.Goals as goal

pub returns-in-None : goal.returns-in-None
returns-in-None g c = λ next is.
    sym (stops-here _ _ _ _ _ _ c.loop-i-test.true c.index-items-i.is (c.loop-i.invariant next is) (sym (is _ _ _ c.step.ensures) ∙ c.in-None.is))

pub loop-i-preserved : goal.loop-i-preserved
loop-i-preserved g c = λ next is.
    walk_more _ _ _ _ _ _ c.loop-i-test.true c.index-items-i.is (c.loop-i.invariant next is) ∙ sym (is _ _ _ c.step.ensures) ∙ c.in-Some.is

pub returns : goal.returns
returns g c = λ next is.
    sym (stops-none {K = g.row.T.Denot} next c.args.from _ c.args.items.now (ap (walk next c.args.from) (sym (take_all _ _ c.loop-i-test.false)) ∙ c.loop-i.invariant next is))
