use Rattle.std.proofs.Common.{ℕ, replicate, refl, ap, ◌∙◌}
use Rattle.joins.proofs.Explorations.{exploring_start}
use Rattle.joins.proofs.search.Search.explore.Goals as goal

pub loop-head-init : goal.loop-head-init
loop-head-init g c =
    let s = c.args.self.now in (
      refl,
      exploring_start _ _ _ c.args.start c.fill.new.self s.queue.now s.parents.now s.letters.now
          c.requires (c.fill.ensures.after (λ y e. e) ∙ ap (λ n. replicate {A = ℕ} n 0) s.long_seen) s.long_queue,
    )
