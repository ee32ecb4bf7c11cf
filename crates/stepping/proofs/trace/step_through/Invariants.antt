use Rattle.std.proofs.Common.{◌≤◌, take}
use Rattle.texts.specs.Texts.{reading}
use Rattle.stepping.specs.Steps.{events}
use Rattle.stepping.proofs.Traces.{Past}
use Rattle.stepping.proofs.trace.step_through.Given as goal

-- the calls of the bytes so far are made and written
abbrev pub invariant-loop-byte : goal.invariant-loop-byte
invariant-loop-byte g l =
    Past g.S.Kind.Letter.alphabet g.S.Kind.Printable.printed g.S.Automaton.model l.initial.sheet l.initial.text l.initial.work l.initial.page
    (events (reading g.S.Kind.Letter.alphabet g.S.Kind.Printable.parsed) (take l.byte-index l.trace)) l.sheet l.text l.work l.page l.place l.all
    × (l.place ≤ l.byte-index)
