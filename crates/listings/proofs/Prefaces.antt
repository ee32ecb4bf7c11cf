-- What an answered reading of a file up to its trace says. Assumes nothing.
use Rattle.std.proofs.Common.{◌≡◌, ℕ, List, Ok, Err, Result, refl}
use Rattle.files.specs.Lines.{items}
use Rattle.files.specs.declared.refusals.Refusal.{Refusal}
use Rattle.listings.specs.Listings.{Listing}
use Rattle.listings.specs.Reads.{ReadAs}
use Rattle.listings.specs.declared.Preface.{Preface}

pub read_ok : {K : Type 0} (d : Result (Listing K) Refusal) (r : Preface) (k : ℕ) (bs : List ℕ) (H : List (List K) → Type 0) → ReadAs d (Ok r) k bs H
    → (x : Listing K) × ((d ≡ Ok x) × ((r.form ≡ x.form) × (r.trace.now ≡ x.trace) × (k ≡ x.line) × (items bs ≡ x.rest) × H x.patterns))
read_ok (Ok x) r k bs H h = (x, (refl, h))
read_ok (Err e) r k bs H h = absurd h
