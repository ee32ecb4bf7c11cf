-- What the reading of a file up to its trace leaves. Assumes nothing.
--
--   ReadAs d r lines list   the answer r, with the lines and the list afterwards, is what the definitions give as d
--   LeftAs d lines list     the lines and the list afterwards, answered or refused, are what the definitions give as d
use Rattle.std.specs.Prelude.{◌≡◌, ℕ, ◌+◌, List, Ok, Err, Result}
use Rattle.files.specs.Lines.{items}
use Rattle.files.specs.declared.refusals.Refusal.{Refusal}
use Rattle.stations.specs.Stations.{Item}
use Rattle.listings.specs.Listings.{Listing}
use Rattle.listings.specs.declared.Preface.{Preface}

-- where the lines are: the number of the last one taken, and the bytes that are left
abbrev pub ReadAs : {K : Type 0} → Result (Listing K) Refusal → Result Preface Refusal → ℕ → List ℕ → (List (List K) → Type 0) → Type 0
ReadAs (Ok d) (Ok r) number rest Holds =
    (r.form ≡ d.form) × (r.trace.now ≡ d.trace) × (number ≡ d.line) × (items rest ≡ d.rest) × Holds d.patterns
ReadAs (Ok d) (Err f) number rest Holds = ⊥
ReadAs (Err e) (Ok r) number rest Holds = ⊥
ReadAs (Err e) (Err f) number rest Holds = e ≡ f

abbrev pub LeftAs : {K : Type 0} → List (List K) × (ℕ × List Item) → ℕ → List ℕ → (List (List K) → Type 0) → Type 0
LeftAs d number rest Holds = (number + 1 ≡ d.1.0) × (items rest ≡ d.1.1) × Holds d.0
