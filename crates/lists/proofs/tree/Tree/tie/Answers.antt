use Rattle.std.proofs.Common.{refl}
use Rattle.lists.proofs.Children.{trie}
use Rattle.lists.proofs.Marking.{trie_set}
use Rattle.lists.proofs.tree.Tree.tie.Goals as goal

pub invariant_of-self : goal.invariant_of-self
invariant_of-self c =
    let t = trie_set c.args.self.now.records.now c.args.self.now.used c.args.q _ c.requires.0 refl refl refl (trie c.args.self.now) in
    record { some = t.0; few = t.1; below = t.2; deep = t.3; apart = t.4; fits = t.5 }
