-- Which way a bridge goes. Assumes nothing.
use Rattle.std.proofs.Common.{◌≡◌, ℕ, ◌≤◌, List, [], Some, None, ap, ◌∙◌, subst}
use Rattle.models.specs.Alphabet.{Alphabet}
use Rattle.models.specs.Automaton.{Model, run}
use Rattle.joinlaw.specs.Bridges.{overlap, filling, filled, overlap_or, bridge_from, bridge}
use Rattle.joinlaw.proofs.Overlaps.{ToldOverlap, told-overlap}

module _ {K : Type 0} (A : Alphabet K) (m : Model K) (fill u v : List K) (most : ℕ) where
  -- the left string is stopped
  pub bridge-stopped : run m u ≡ None → bridge A m fill u v most ≡ None
  unfolding bridge
  bridge-stopped e = ap (bridge_from A m fill u v most) e

  module _ (q : ℕ) (at : run m u ≡ Some q) where
    pub bridge-overlap : (o : ℕ) → overlap A m q u v most ≡ Some o → bridge A m fill u v most ≡ Some (record { overlap = o; filling = [] })
    unfolding bridge
    bridge-overlap o e = ap (bridge_from A m fill u v most) at ∙ ap (λ x. overlap_or x (filling m fill q v)) e

    pub bridge-filling : overlap A m q u v most ≡ None → bridge A m fill u v most ≡ filled (filling m fill q v)
    unfolding bridge
    bridge-filling e = ap (bridge_from A m fill u v most) at ∙ ap (λ x. overlap_or x (filling m fill q v)) e

  pub overlap-most : (q o : ℕ) → overlap A m q u v most ≡ Some o → o ≤ most
  overlap-most q o e = (subst (ToldOverlap A m q u v most) e (told-overlap A m q u v most)).within
