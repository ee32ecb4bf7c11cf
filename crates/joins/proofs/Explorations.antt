-- What holds between two turns of the search. Assumes nothing.
use Rattle.std.proofs.Common.{◌≡◌, ℕ, ◌<◌, ◌≤◌, List, length, set, replicate, Option, sym, subst, arith}
use Rattle.models.specs.Automaton.{Model}
use Rattle.joinlaw.specs.Bridges.{serves}
use Rattle.joins.specs.Queue.{by, step_by, Paused, Goalless}
use Rattle.joins.proofs.Turns.{paused_start}

pub record Exploring {K : Type 0} (pick : ℕ → Option K) (m : Model K) (v : List K) (start head tail : ℕ) (seen qs ps ls : List ℕ) : Type 0 where
  pub paused : Paused (step_by pick m) start m.count head tail seen (by qs) (by ps) (by ls)
  pub before : Goalless (serves m v) head (by qs)
  pub most : tail ≤ m.count
  pub within : head ≤ tail

module _ {K : Type 0} (pick : ℕ → Option K) (m : Model K) (v : List K) (start : ℕ) where
  pub exploring_start : (seen qs ps ls : List ℕ) → start < m.count → seen ≡ replicate m.count 0 → length qs ≡ m.count → Exploring pick m v start 0 1 (set seen start 1) (set qs 0 start) ps ls
  exploring_start seen qs ps ls among free b = record {
    paused = subst (λ xs. Paused (step_by pick m) start m.count 0 1 (set xs start 1) (by (set qs 0 start)) (by ps) (by ls)) (sym free) (paused_start (step_by pick m) start m.count qs (by ps) (by ls) among b);
    before = λ i h r. omega arith;
    most = omega arith;
    within = omega arith;
  }
