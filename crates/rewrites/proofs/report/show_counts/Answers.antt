use Rattle.std.proofs.Common.{[], ◌∷◌, ◌++◌, refl}
use Rattle.pages.specs.Pages.{columns}
use Rattle.pages.proofs.Writes.{wrote_then}
use Rattle.rewrites.proofs.report.show_counts.Goals as goal

pub returns : goal.returns
returns c =
    let filled = wrote_then (columns 6 c.args.counts.filled ++ (10 ∷ [])) refl c.columns-5.ensures c.push.ensures in
    wrote_then _ refl c.columns.ensures (wrote_then _ refl c.columns-2.ensures (wrote_then _ refl c.columns-3.ensures (wrote_then _ refl c.columns-4.ensures filled)))
