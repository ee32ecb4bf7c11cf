use Rattle.std.proofs.Common.{◌≡◌}
use Rattle.joins.proofs.Expansions.{Expanding}
use Rattle.joins.proofs.search.Search.expand.Given as goal

abbrev pub invariant-loop-number : goal.invariant-loop-number
invariant-loop-number g l =
    let s = l.self in
    (s.automaton.now ≡ l.initial.self.automaton.now)
    × Expanding g.S.Kind.Letter.alphabet.letter (g.S.Automaton.model s.automaton.now) l.head l.tail l.initial.self.queue.now l.number l.end s.seen.now s.queue.now s.parents.now s.letters.now
