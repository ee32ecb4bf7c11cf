-- A file whose kind is named. Assumes nothing.
use Rattle.std.proofs.Common.{◌≡◌, ℕ, ◌≤◌, cond, List, length, Ok, Err, ap, ◌∙◌}
use Rattle.std.proofs.lemmas.Bool.{le-ltb}
use Rattle.files.specs.Lines.{items}
use Rattle.stations.specs.Stations.{Item, early, headed}
use Rattle.stations.specs.declared.Kind.{Kind}
use Rattle.listings.specs.Listings.{and_then}
use Rattle.joinings.specs.Outcomes.{Tables, body_of, outcome}

pub outcome_is : (t : Tables) (bs : List ℕ) (k : Kind) (l : ℕ) (xs : List Item) → length bs ≤ 60000 → headed 1 (items bs) ≡ Ok (k, (l, xs)) → outcome t bs ≡ body_of t k l xs
outcome_is t bs k l xs few head =
    ap (λ b. cond b (Err early) (and_then (headed 1 (items bs)) (λ h. body_of t h.0 h.1.0 h.1.1))) (le-ltb 60000 (length bs) few)
    ∙ ap (λ r. and_then r (λ h. body_of t h.0 h.1.0 h.1.1)) head
