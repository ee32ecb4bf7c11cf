use Rattle.std.proofs.Common.{sym, refl, ap, ◌∙◌}
use Rattle.std.specs.Option.{is_none}
use Rattle.texts.specs.Texts.{reading, unless_stray}
use Rattle.listings.proofs.Positions.{stray_position}
use Rattle.stepping.specs.Steps.{event}
use Rattle.stepping.proofs.trace.check_trace.Goals as goal

pub returns-in-Some : goal.returns-in-Some
returns-in-Some g c =
    let reads = event (reading g.L.Letter.alphabet g.L.Printable.parsed) in
    let is = sym c.in-Some.is ∙ c.stray.ensures ∙ stray_position reads (λ b. is_none (reads b)) (λ b. refl) c.args.trace.now in
    ap (λ o. unless_stray o tt) is

pub returns-in-None : goal.returns-in-None
returns-in-None g c =
    let reads = event (reading g.L.Letter.alphabet g.L.Printable.parsed) in
    let is = sym c.in-None.is ∙ c.stray.ensures ∙ stray_position reads (λ b. is_none (reads b)) (λ b. refl) c.args.trace.now in
    ap (λ o. unless_stray o tt) is
