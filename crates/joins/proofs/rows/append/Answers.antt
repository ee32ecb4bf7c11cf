use Rattle.std.proofs.Common.{rules, ◌≡◌, ◌+◌, ◌++◌, length, take, drop, Ok, Err, Some, sym, ap, ◌∙◌, subst}
use Rattle.joinlaw.specs.Words.{letters}
use Rattle.joinlaw.specs.Bridges.{bridge, row}
use Rattle.joins.specs.Ways.{told, WayIs}
use Rattle.joins.specs.Answers.{appended, appended_text}
use Rattle.joins.proofs.Puts.{put_fits, put_short, put_text_fits, put_text_short}
use Rattle.joins.proofs.Writings.{added-row, joined-told}
use Rattle.joins.proofs.rows.append.Goals as goal

pub returns-then-end-text : goal.returns-then-end-text
returns-then-end-text g c =
    let A = g.S.Kind.Letter.alphabet in
    let v = c.args.right.now in
    let text = c.args.text.now in
    let found : WayIs A (g.S.Automaton.model c.args.automaton.now).count (length v) (Some c.in-Some.way) (bridge A (g.S.Automaton.model c.args.automaton.now) (letters A) c.args.left.now v c.args.most) =
    subst (λ a. WayIs A (g.S.Automaton.model a).count (length v) (Some c.in-Some.way) (bridge A (g.S.Automaton.model a) (letters A) c.args.left.now v c.args.most)) c.over.ensures c.in-Some.ensures in
    let b = told A c.in-Some.way in
    let end = c.args.at + c.added.result in
    let is : end ≡ c.args.at + length (row b v) = ap (λ i. c.args.at + i) (c.added.ensures ∙ added-row A v c.in-Some.way found.1) in
    let short = c.if-end-text.true in
    record {
      answer = sym (ap (λ o. appended o v c.args.at (length text)) found.0 ∙ put_short b v c.args.at end is (length text) short);
      text = sym (ap (λ o. appended_text o v c.args.at text) found.0 ∙ put_text_short b v c.args.at end is text short);
    }

pub write-requires : goal.write-requires
write-requires g c = record { fit = c.in-Some.ensures.1; room = (ap (λ i. c.args.at + i) c.added.ensures, c.if-end-text.false) }

pub returns : goal.returns
returns g c =
    let A = g.S.Kind.Letter.alphabet in
    let v = c.args.right.now in
    let text = c.args.text.now in
    let at = c.args.at in
    let way = c.in-Some.way in
    let found : WayIs A (g.S.Automaton.model c.args.automaton.now).count (length v) (Some c.in-Some.way) (bridge A (g.S.Automaton.model c.args.automaton.now) (letters A) c.args.left.now v c.args.most) =
    subst (λ a. WayIs A (g.S.Automaton.model a).count (length v) (Some c.in-Some.way) (bridge A (g.S.Automaton.model a) (letters A) c.args.left.now v c.args.most)) c.over.ensures c.in-Some.ensures in
    let b = told A way in
    let end = at + c.added.result in
    let is : end ≡ at + length (row b v) = ap (λ i. at + i) (c.added.ensures ∙ added-row A v way found.1) in
    let fits = c.if-end-text.false in
    record {
      answer =
          joined-told A v way found.1 end _ (search rules) (search rules) (search rules)
          ∙ sym (ap (λ o. appended o v at (length text)) found.0 ∙ put_fits b v at end is (length text) fits);
      text =
          c.write.ensures
          ∙ ap (λ n. take at text ++ (row b v ++ drop n text)) (sym is)
          ∙ sym (ap (λ o. appended_text o v at text) found.0 ∙ put_text_fits b v at end is text fits);
    }
