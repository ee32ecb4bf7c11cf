use Rattle.std.proofs.Common.{refl, arith}
use Rattle.lists.proofs.Entering.{reach_old, reach_room, reach_trie, reach_new}
use Rattle.lists.proofs.tree.Tree.reach.Goals as goal

pub returns-in-Some-clause-reached : goal.returns-in-Some-clause-reached
returns-in-Some-clause-reached c = reach_old c.args.self.now c.args.under c.args.a c.in-Some.state c.in-Some.ensures

pub bounds-self-state : goal.bounds-self-state
bounds-self-state c = omega (arith, reach_room c.args.self.now c.args.under c.args.a c.requires.inside.0 c.in_default.ensures c.requires.new)

pub invariant_of-self : goal.invariant_of-self
invariant_of-self c =
    let new = reach_trie c.args.self.now c.args.under c.args.a c.requires.inside.0 c.in_default.ensures c.requires.new c.requires.room _ refl refl c.requires.inside.1 refl in
    record { some = new.0; few = new.1; below = new.2; deep = new.3; apart = new.4; fits = new.5 }

pub returns-clause-reached : goal.returns-clause-reached
returns-clause-reached c = reach_new c.args.self.now c.args.under c.args.a c.requires.inside.0 c.in_default.ensures c.requires.new c.requires.room _ refl refl c.requires.inside.1 refl
