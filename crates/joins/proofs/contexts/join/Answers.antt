use Rattle.joinlaw.proofs.Joins.{join-law}
use Rattle.joins.proofs.contexts.join.Goals as goal

pub returns-then-work-needed-clause-least : goal.returns-then-work-needed-clause-least
returns-then-work-needed-clause-least g c =
    join-law g.S.Kind.Letter.alphabet g.S.Kind.Letter.numbered (g.S.Automaton.model c.args.automaton.now) (g.S.Automaton.lawful c.args.automaton.now) c.args.left.now c.args.right.now

pub returns-clause-least : goal.returns-clause-least
returns-clause-least g c =
    join-law g.S.Kind.Letter.alphabet g.S.Kind.Letter.numbered (g.S.Automaton.model c.args.automaton.now) (g.S.Automaton.lawful c.args.automaton.now) c.args.left.now c.args.right.now
