use Rattle.std.proofs.Common.{ℕ, ◌-◌, ◌≤◌, List, length, sym, ap, subst, arith}
use mathlib.Core.Logic.{∥∥₁_map}
use Rattle.std.proofs.lemmas.Nat.{div-add-mod'}
use Rattle.listlaw.specs.Patterns.{Word, coded}
use Rattle.listlaw.specs.Table.{Right, Means}
use Rattle.lists.specs.declared.links.Links.{Links}
use Rattle.lists.specs.Lists.{Lists}
use Rattle.lists.specs.Finished.{stop_at, goes_to, listed_model}
use Rattle.lists.proofs.Finishing.{some-longest, finished_right, empty_means, finished_means}
use Rattle.lists.proofs.builder.Builder.finish.Goals as goal

pub returns-then-taken-eq0-clause-means : goal.returns-then-taken-eq0-clause-means
returns-then-taken-eq0-clause-means g c n m ps h =
    empty_means g.L.Letter.alphabet g.L.Letter.numbered n m c.args.self ps h c.if-taken-eq0.true c.args.self.tree.records.now c.args.self.words.now

pub complete-requires : goal.complete-requires
complete-requires g c = let b = c.args.self in some-longest b.tree.records.now b.tree.used b.taken b.longest b.held (omega arith)

pub overflow_sub-result : goal.overflow_sub-result
overflow_sub-result g c = let b = c.args.self in some-longest b.tree.records.now b.tree.used b.taken b.longest b.held (omega arith)

pub invariant_of-result-2 : goal.invariant_of-result-2
invariant_of-result-2 g c =
    let b = c.args.self in
    let done = c.complete.new.self in
    let cols = c.columns-columns.ensures in
    let k = c.complete.ensures in
    let some : 1 ≤ b.taken = omega arith in
    let l : Links = record { tree = b.tree; words = b.words; room = b.fits some; small = b.small } in
    let right : (ps : List Word) → Lists b.tree.records.now b.tree.used b.taken b.longest ps → Right ps done.tree.used c.columns-columns.result (stop_at done.tree.records.now c.columns-columns.result b.taken) (goes_to done.words.now b.taken) = λ ps h.
    subst (λ (n : ℕ). Right ps done.tree.used n (stop_at done.tree.records.now n b.taken) (goes_to done.words.now b.taken)) (sym cols) (finished_right l done b.taken b.longest some k.kept k.linked k.ended ps h) in
    record {
      few = done.tree.few;
      narrow = omega (arith, cols);
      deep = λ h. done.room;
      wide = λ h. omega (arith, cols, div-add-mod' (length done.words.now) 512);
      built = ∥∥₁_map b.held (λ h. (h.0, (right h.0 h.1, ap (λ (n : ℕ). n - 1) h.1.extent)));
    }

pub returns-clause-means : goal.returns-clause-means
returns-clause-means g c n m ps h =
    let A = g.L.Letter.alphabet in
    let b = c.args.self in
    let done = c.complete.new.self in
    let k = c.complete.ensures in
    let some : 1 ≤ b.taken = omega arith in
    let l : Links = record { tree = b.tree; words = b.words; room = b.fits some; small = b.small } in
    subst (λ (n : ℕ). Means A (listed_model A.number done.tree.records.now done.words.now done.tree.used n b.taken (b.longest - 1)) ps) (sym c.columns-columns.ensures)
    (finished_means A g.L.Letter.numbered n m b ps h some done.tree.used done.tree.records.now done.words.now k.kept.2 (finished_right l done b.taken b.longest some k.kept k.linked k.ended (coded A ps) h.lists))
