use Rattle.std.proofs.Common.{◌≡◌, ◌+◌, ◌<◌, [], get_or, take}
use Rattle.listlaw.specs.Patterns.{gather, fronts}
use Rattle.lists.specs.Names.{names}
use Rattle.lists.proofs.tree.Tree.grown.Given as goal

-- the prefixes so far are states, the longest of them is `under`
abbrev pub invariant-loop-k : goal.invariant-loop-k
invariant-loop-k l =
    (l.under < l.self.used)
    × (get_or (names l.self.records.now l.self.used) l.under [] ≡ take l.k l.word.letters.now)
    × (gather (names l.self.records.now l.self.used) (fronts (take (l.k + 1) l.word.letters.now)) ≡ names l.self.records.now l.self.used)
