use Rattle.std.proofs.Common.{sym, ap, ◌∙◌, take_all}
use Rattle.models.specs.Automaton.{walk}
use Rattle.models.proofs.Walks.{walk_more, ends-here}
use Rattle.automata.proofs.walk.Goals as goal

pub returns-in_err-state : goal.returns-in_err-state
returns-in_err-state g c =
    let stop = sym c.step.ensures ∙ c.in_err-state.was in
    c.from_residual.ensures ∙ sym (ends-here _ _ _ _ _ _ c.loop-letter-test.true c.letter-item.is c.loop-letter.invariant stop)

pub loop-letter-preserved : goal.loop-letter-preserved
loop-letter-preserved g c =
    walk_more _ _ _ _ _ _ c.loop-letter-test.true c.letter-item.is c.loop-letter.invariant ∙ sym c.step.ensures ∙ c.in_ok-state.was

pub returns : goal.returns
returns g c =
    let m = g.S.Automaton.model c.args.automaton.now in
    sym (ap (walk m.next c.args.from) (sym (take_all _ _ c.loop-letter-test.false)) ∙ c.loop-letter.invariant)
