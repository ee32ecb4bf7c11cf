use Rattle.std.proofs.Common.{◌≡◌, length}
use Rattle.lists.specs.Names.{Entered}
use Rattle.lists.proofs.tree.Tree.enter.Given as goal

-- the prefixes so far are entered
abbrev pub invariant-loop-k : goal.invariant-loop-k
invariant-loop-k l = Entered l.initial.self.records.now l.self.records.now l.initial.self.used l.word.letters.now l.k l.under l.self.used × (length l.self.records.now ≡ length l.initial.self.records.now)
