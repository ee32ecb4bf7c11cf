use Rattle.std.proofs.Common.{◌∷◌, map, refl, ap}
use Rattle.pages.proofs.Writes.{wrote_then, wrote_is}
use Rattle.stepping.specs.Outcomes.{count_lines}
use Rattle.stepping.proofs.report.show_end.Goals as goal

pub returns : goal.returns
returns g c =
    let f = λ (x : g.row.L.Denot). g.L.Printable.printed (g.L.Letter.alphabet.number x) in
    let rest = wrote_then (10 ∷ count_lines c.args.counts) refl c.push.ensures c.show_counts.ensures in
    wrote_then _ refl c.put.ensures (wrote_then _ refl (wrote_is _ (ap (map f) c.front.ensures) c.show_letters.ensures) rest)
