use Rattle.std.proofs.Common.{◌≡◌, take, Some}
use Rattle.models.specs.Automaton.{walk}
use Rattle.automata.proofs.walk.Given as goal

-- the letters so far lead to the state
abbrev pub invariant-loop-letter : goal.invariant-loop-letter
invariant-loop-letter g l = walk (g.S.Automaton.model l.automaton).next l.from (take l.letter-index l.text) ≡ Some l.state
