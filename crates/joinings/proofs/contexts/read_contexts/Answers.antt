use Rattle.std.proofs.Common.{◌≡◌, ◌+◌, length, take, drop, Ok, Err, sym, ap, ◌∙◌, rules}
use Rattle.std.proofs.lemmas.List.{take_rest}
use Rattle.std.proofs.lemmas.Result.{err_from_is_err_and}
use Rattle.texts.specs.Texts.{reading}
use Rattle.joinings.specs.Contexts.{context}
use Rattle.joinings.proofs.Cuts.{cut_both, cut_right}
use Rattle.joinings.proofs.contexts.read_contexts.Goals as goal

pub returns-in_err-right : goal.returns-in_err-right
returns-in_err-right g c =
    let reads = reading g.L.Letter.alphabet g.L.Printable.parsed in
    let bs = c.args.content.now in
    let at = c.in-Some.at in
    let left : context reads 0 (take at bs) ≡ Ok c.in_ok-left.left.now = search rules in
    let f = c.in_err-right.field-0.0 in
    let right : context reads (at + 1) (drop (at + 1) bs) ≡ Err f = sym (ap (context reads (at + 1)) (take_rest bs (at + 1))) ∙ c.in_err-right.ensures in
    let whole = cut_right reads (length c.args.table.now) bs at (sym c.in-Some.ensures.place) c.if-table-needed.false c.in_ok-left.left.now left f right in
    let p = err_from_is_err_and c.from_residual-in_err-right.result c.from_residual-in_err-right.ensures.1 in
    rw (p.1, p.2) whole

pub returns : goal.returns
returns g c =
    let reads = reading g.L.Letter.alphabet g.L.Printable.parsed in
    let bs = c.args.content.now in
    let at = c.in-Some.at in
    let left : context reads 0 (take at bs) ≡ Ok c.in_ok-left.left.now = search rules in
    let right : context reads (at + 1) (drop (at + 1) bs) ≡ Ok c.in_ok-right.right.now = sym (ap (context reads (at + 1)) (take_rest bs (at + 1))) ∙ c.in_ok-right.ensures in
    cut_both reads (length c.args.table.now) bs at (sym c.in-Some.ensures.place) c.if-table-needed.false c.in_ok-left.left.now left c.in_ok-right.right.now right
