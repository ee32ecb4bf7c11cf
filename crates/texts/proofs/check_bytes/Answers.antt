use Rattle.std.proofs.Common.{rules, ◌≡◌, None, Ok, sym, ap, ◌∙◌}
use Rattle.models.specs.Automaton.{stops, stopped}
use Rattle.texts.specs.Texts.{reading, stray, spelled, byte_next, unless_stray}
use Rattle.texts.proofs.Strays.{stops-spelled}
use Rattle.texts.proofs.check_bytes.Goals as goal

pub returns-in-None : goal.returns-in-None
returns-in-None g c =
    let m = g.S.Automaton.model c.args.automaton.now in
    let reads = reading g.S.Kind.Letter.alphabet g.S.Kind.Printable.parsed in
    let bs = c.args.bytes.now in
    let none : stray reads bs ≡ None = sym c.stray.ensures ∙ c.in-None.is in
    let place : c.stop_place.result ≡ stopped m (spelled reads bs) = c.stop_place.ensures (byte_next m reads) (λ q x o p. search rules) ∙ ap (λ q. stops (byte_next m reads) q bs) c.first.ensures ∙ stops-spelled reads m m.start bs none in
    ap Ok place ∙ sym (ap (λ o. unless_stray o (stopped m (spelled reads bs))) none)
