use Rattle.std.proofs.Common.{arith}
use Rattle.lists.proofs.Rows.{column-room}
use Rattle.lists.proofs.Linking.{link_first, link_next, under-inside}
use Rattle.lists.proofs.links.Links.link_of.Goals as goal

pub returns-then-parent-eq0 : goal.returns-then-parent-eq0
returns-then-parent-eq0 c = link_first c.args.self.now c.args.q c.requires.inside.0 c.requires.inside.1 c.requires.linked c.if-parent-eq0.true

pub bounds-self-record : goal.bounds-self-record
bounds-self-record c =
    column-room c.args.self.now.words.now _ _ (c.args.self.now.small c.args.q c.requires.inside.0 c.requires.inside.1)
    (omega (arith, c.args.self.now.tree.few, under-inside c.args.self.now c.args.q c.requires.inside.0 c.requires.inside.1 c.requires.linked c.if-parent-eq0.false))

pub returns : goal.returns
returns c = link_next c.args.self.now c.args.q c.requires.inside.0 c.requires.inside.1 c.requires.linked c.if-parent-eq0.false
