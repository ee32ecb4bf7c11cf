use Rattle.std.proofs.Common.{◌≡◌, drop}
use Rattle.sheets.specs.Views.{contents}
use Rattle.rewritelaw.specs.Traces.{fed}
use Rattle.rewrites.proofs.trace.feed.Given as goal

-- what is left gives what all gives; the window length and the automaton stay
abbrev pub invariant-loop-place : goal.invariant-loop-place
invariant-loop-place g l =
    let go = fed g.S.Kind.Letter.alphabet g.S.Kind.Printable.parsed (g.S.Automaton.model l.initial.sheet.automaton) l.initial.sheet.k in
    (go l.place (drop l.place l.trace) (contents l.sheet) l.text l.work ≡ go 0 l.trace (contents l.initial.sheet) l.initial.text l.initial.work) × (l.sheet.k ≡ l.initial.sheet.k) × (l.sheet.automaton ≡ l.initial.sheet.automaton)
