use Rattle.std.proofs.Common.{[], ◌∷◌, codes, sym, refl, ap}
use Rattle.std.proofs.lemmas.List.{length-map}
use Rattle.pages.specs.Pages.{labelled}
use Rattle.pages.proofs.Writes.{wrote_then, wrote_is}
use Rattle.joinings.proofs.report.show_joined.Goals as goal

pub returns : goal.returns
returns g c =
    let long = wrote_is _ (ap (λ n. labelled (codes "length: ") n (10 ∷ [])) (sym (length-map c.args.finding.text.now (λ y. g.L.Printable.printed (g.L.Letter.alphabet.number y))))) c.labelled-5.ensures in
    wrote_then _ refl c.labelled.ensures (wrote_then _ refl c.labelled-2.ensures (wrote_then _ refl c.labelled-3.ensures (wrote_then _ refl c.labelled-4.ensures (wrote_then _ refl long (wrote_then _ refl c.show_letters.ensures c.push.ensures)))))
