use Rattle.std.proofs.Common.{◌≡◌, ℕ, ◌+◌, List, length}
use Rattle.files.specs.Lines.{items}
use Rattle.lists.specs.History.{Holds}
use Rattle.texts.specs.Texts.{reading}
use Rattle.listings.specs.Listings.{listed, reached, fresh}
use Rattle.listings.proofs.read.Given as goal

-- for every list of patterns that the list held at first: what it holds now, and what is left comes to what all came to
abbrev pub invariant-loop-line : goal.invariant-loop-line
invariant-loop-line g l =
    let K = g.row.L.Denot in
    let A = g.L.Letter.alphabet in
    let reads = reading A g.L.Printable.parsed in
    (n m : ℕ) (ps : List (List K)) → Holds A n m l.initial.list ps
    → (qs : List (List K)) × (Holds A n m l.list qs
    × (listed A reads n m (l.lines.number + 1) l.form qs (items l.lines.rest.now) ≡ listed A reads n m (l.initial.lines.number + 1) fresh ps (items l.initial.lines.rest.now))
    × (reached A reads n m (l.lines.number + 1) l.form qs (items l.lines.rest.now) ≡ reached A reads n m (l.initial.lines.number + 1) fresh ps (items l.initial.lines.rest.now)))

abbrev pub decreases-loop-line : goal.decreases-loop-line
decreases-loop-line g l = length l.lines.rest.now
