use Rattle.std.proofs.Common.{sym, arith}
use Rattle.joins.proofs.Stops.{stops-within}
use Rattle.joins.proofs.contexts.alone.Goals as goal

pub overflow_add-result : goal.overflow_add-result
overflow_add-result g c =
    let m = g.S.Automaton.model c.args.automaton.now in
    let lt = stops-within m.next c.args.context.now m.start c.in-Some.place (sym c.in-Some.ensures) in
    omega (arith, c.requires)
