-- A content that is cut at its first `?`. Assumes nothing.
use Rattle.std.proofs.Common.{◌≡◌, ℕ, ◌+◌, ◌-◌, ◌≤◌, cond, List, length, take, drop, Some, Ok, Err, Option, ap, ◌∙◌}
use Rattle.std.proofs.lemmas.Bool.{le-ltb}
use Rattle.faults.specs.declared.Fault.{Fault}
use Rattle.faults.specs.Causes.{short_work}
use Rattle.stations.specs.Stations.{bind}
use Rattle.joinings.specs.Contexts.{gap, context, both, contexts_at, contexts}

module _ {K : Type 0} (reads : ℕ → Option K) (room : ℕ) (bs : List ℕ) (i : ℕ) (e : gap bs ≡ Some i) (fits : length bs - 1 ≤ room) where
  cut : contexts reads room bs ≡ both reads bs i
  cut = ap (contexts_at reads room bs) e ∙ ap (λ t. cond t (Err (short_work (length bs - 1))) (both reads bs i)) (le-ltb room (length bs - 1) fits)

  module _ (u : List K) (left : context reads 0 (take i bs) ≡ Ok u) where
    -- the right context is what is left to read
    pub cut_left : contexts reads room bs ≡ bind (context reads (i + 1) (drop (i + 1) bs)) (λ v. Ok (u, v))
    cut_left = cut ∙ ap (λ r. bind r (λ u. bind (context reads (i + 1) (drop (i + 1) bs)) (λ v. Ok (u, v)))) left

    pub cut_both : (v : List K) → context reads (i + 1) (drop (i + 1) bs) ≡ Ok v → contexts reads room bs ≡ Ok (u, v)
    cut_both v right = cut_left ∙ ap (λ r. bind r (λ v. Ok (u, v))) right

    pub cut_right : (f : Fault) → context reads (i + 1) (drop (i + 1) bs) ≡ Err f → contexts reads room bs ≡ Err f
    cut_right f right = cut_left ∙ ap (λ r. bind r (λ v. Ok (u, v))) right
