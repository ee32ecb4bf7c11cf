-- The filling is the least string that fills, and shorter than there are states. Assumes nothing.
use Rattle.std.proofs.Common.{◌≡◌, ℕ, ◌<◌, List, ◌++◌, length, Some, None, Option, refl, ap, ◌∙◌, subst}
use Rattle.models.specs.Alphabet.{Alphabet}
use Rattle.models.specs.Automaton.{Model, Lawful}
use Rattle.models.specs.Strings.{Least}
use Rattle.joinlaw.specs.Words.{Ascending}
use Rattle.joinlaw.specs.Bridges.{serves, filling, Fills}
use Rattle.joinlaw.specs.Laws.{FillingIs, FillingLaw}
use Rattle.joinlaw.proofs.Listing.{FirstBelow, ToldBelow, told_below}
use Rattle.joinlaw.proofs.Orders.{least_once}
use Rattle.joinlaw.proofs.Paths.{short_fills}

module _ {K : Type 0} (number : K → ℕ) (m : Model K) (fill : List K) (ascending : Ascending number fill) (q : ℕ) (v : List K) where
  told-filling : ToldBelow number fill (λ z. serves m (z ++ v) q) m.count (filling m fill q v)
  unfolding filling
  told-filling = told_below number fill ascending m.count (λ z. serves m (z ++ v) q)

  told-some : (z : List K) → filling m fill q v ≡ Some z → FirstBelow number fill (λ z. serves m (z ++ v) q) m.count z
  told-some z e = subst (ToldBelow number fill (λ z. serves m (z ++ v) q) m.count) e told-filling

  pub filling_least : (z : List K) → filling m fill q v ≡ Some z → Least number (Fills m fill q v) z
  filling_least z e = let t = told-some z e in ((t.over, t.passes), λ y f. t.before y f.0 f.1)

  pub filling-few : (z : List K) → filling m fill q v ≡ Some z → length z < m.count
  filling-few z e = (told-some z e).few

  module _ (lawful : Lawful m) (among : q < m.count) where
    -- none of any length
    pub filling-none : filling m fill q v ≡ None → (z : List K) → Fills m fill q v z → ⊥
    filling-none e z f =
        let s = short_fills m lawful fill q v among z f in
        subst (ToldBelow number fill (λ z. serves m (z ++ v) q) m.count) e told-filling s.string s.fills.0 s.few s.fills.1

    -- so the least string that fills is the filling, and no filling says that there is none
    pub filling_is : ((x y : K) → number x ≡ number y → x ≡ y) → (z : List K) → Least number (Fills m fill q v) z → filling m fill q v ≡ Some z
    filling_is apart z l = go (filling m fill q v) refl where
      go : (o : Option (List K)) → filling m fill q v ≡ o → filling m fill q v ≡ Some z
      go (Some y) e = e ∙ ap Some (least_once number apart (Fills m fill q v) y z (filling_least y e) l)
      go None e = absurd (filling-none e z l.0)

    pub filling_is_none : ((z : List K) → Fills m fill q v z → ⊥) → filling m fill q v ≡ None
    filling_is_none none = go (filling m fill q v) refl where
      go : (o : Option (List K)) → filling m fill q v ≡ o → filling m fill q v ≡ None
      go (Some y) e = absurd (none y (filling_least y e).0)
      go None e = e

pub filling-law : {K : Type 0} (A : Alphabet K) → FillingLaw A
filling-law {K} A m lawful fill ascending q among v = go (filling m fill q v) refl where
  go : (o : Option (List K)) → filling m fill q v ≡ o → FillingIs A.number m fill q v o
  go (Some z) e = (filling_least A.number m fill ascending q v z e, filling-few A.number m fill ascending q v z e)
  go None e = filling-none A.number m fill ascending q v lawful among e
