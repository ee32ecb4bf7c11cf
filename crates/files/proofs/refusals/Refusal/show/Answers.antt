use Rattle.std.proofs.Common.{[], ◌∷◌, ◌++◌, refl, ap}
use Rattle.faults.specs.Causes.{place_of, layer_byte}
use Rattle.pages.specs.Pages.{columns}
use Rattle.pages.proofs.Writes.{wrote_then}
use Rattle.files.proofs.refusals.Refusal.show.Goals as goal

pub returns : goal.returns
returns c =
    let r = c.args.self.now in
    let line = wrote_then (columns 6 r.line ++ (10 ∷ [])) refl c.columns-3.ensures c.push-3.ensures in
    let place = wrote_then _ (ap (λ n. columns 6 n ++ (columns 6 r.line ++ (10 ∷ []))) c.place.ensures) c.columns-2.ensures line in
    let layer = wrote_then _ (ap (λ b. b ∷ (columns 6 (place_of r.fault) ++ (columns 6 r.line ++ (10 ∷ [])))) c.layer_byte.ensures) c.push-2.ensures place in
    let number = wrote_then _ (ap (λ n. columns 4 n ++ (layer_byte r.fault ∷ (columns 6 (place_of r.fault) ++ (columns 6 r.line ++ (10 ∷ []))))) c.number.ensures) c.columns.ensures layer in
    wrote_then _ refl c.push.ensures number
