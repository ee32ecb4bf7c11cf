use Rattle.std.proofs.Common.{◌≡◌, ◌-◌, min, ◌++◌, length, drop, Ok, sym, ap, ◌∙◌, arith}
use Rattle.joinlaw.specs.Words.{letters}
use Rattle.joinlaw.specs.Bridges.{bridge, join}
use Rattle.joins.specs.Answers.{appended, appended_text}
use Rattle.joins.proofs.Joinings.{front_written, front_is}
use Rattle.joins.proofs.contexts.within.Goals as goal

pub returns-clause-text : goal.returns-clause-text
returns-clause-text g c =
    let A = g.S.Kind.Letter.alphabet in
    let m = g.S.Automaton.model c.args.automaton.now in
    let u = c.args.left.now in
    let v = c.args.right.now in
    let text = c.args.text.now in
    let j = c.in_ok-joined.joined in
    let most : c.min-most.result ≡ min (length u) (length v) = omega (arith, c.min-most.ensures) in
    let is : Ok j ≡ appended (join A m u v) v (length u) (length text) = sym c.in_ok-joined.was ∙ c.append.ensures.answer ∙ ap (λ n. appended (bridge A m (letters A) u v n) v (length u) (length text)) most in
    let row_is : c.append.new.text ≡ appended_text (join A m u v) v (length u) text = c.append.ensures.text ∙ ap (λ n. appended_text (bridge A m (letters A) u v n) v (length u) text) most in
    front_is u v text j (length u - 0) c.append.new.text c.copy_from_slice.new.self c.copy_from_slice.ensures.after (omega arith)
    ∙ ap (λ w. u ++ drop (length u) w) row_is
    ∙ front_written u v text j (join A m u v) (sym is)
