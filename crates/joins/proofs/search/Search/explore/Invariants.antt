use Rattle.std.proofs.Common.{◌≡◌, ◌-◌}
use Rattle.joins.proofs.Explorations.{Exploring}
use Rattle.joins.proofs.search.Search.explore.Given as goal

abbrev pub invariant-loop-head : goal.invariant-loop-head
invariant-loop-head g l =
    let s = l.self in
    (s.automaton.now ≡ l.initial.self.automaton.now)
    × Exploring g.S.Kind.Letter.alphabet.letter (g.S.Automaton.model l.initial.self.automaton.now) l.right l.start l.head l.tail s.seen.now s.queue.now s.parents.now s.letters.now

abbrev pub decreases-loop-head : goal.decreases-loop-head
decreases-loop-head g l = (g.S.Automaton.model l.initial.self.automaton.now).count - l.head
