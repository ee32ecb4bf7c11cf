use Rattle.std.proofs.Common.{◌∷◌, map, refl, ap}
use Rattle.pages.proofs.Writes.{wrote_then, wrote_is}
use Rattle.rewrites.specs.Outcomes.{counts_line}
use Rattle.rewrites.proofs.report.show_sheet.Goals as goal

pub returns : goal.returns
returns g c =
    let f = λ (x : g.row.L.Denot). g.L.Printable.printed (g.L.Letter.alphabet.number x) in
    let rest = wrote_then (10 ∷ counts_line c.args.counts) refl c.push.ensures c.show_counts.ensures in
    wrote_then _ refl (wrote_is _ (ap (map f) c.front.ensures) c.show_letters.ensures) rest
