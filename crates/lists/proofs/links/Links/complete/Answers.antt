use Rattle.std.proofs.Common.{◌≡◌, ℕ, ◌/◌, min, refl, ap, arith}
use Rattle.lists.specs.Lists.{columns}
use Rattle.lists.proofs.Children.{trie}
use Rattle.lists.proofs.Levels.{first_shape}
use Rattle.lists.proofs.links.Links.complete.Goals as goal

pub loop-d-init : goal.loop-d-init
loop-d-init c =
    let l = c.args.self.now in
    let mid = c.reset.new.words in
    let last = c.plant.new.words in
    let first : columns mid ≡ columns l.words.now = ap (λ (n : ℕ). min 32 (n / 512)) c.reset.auto.words in
    let second : columns last ≡ columns mid = ap (λ (n : ℕ). min 32 (n / 512)) c.plant.auto.words in (
      (refl, refl, refl),
      first_shape l.tree.records.now l.tree.used (trie l.tree) l.words.now mid last
          (λ a h. c.reset.ensures a (omega (arith, first, second))) (λ a h. c.plant.ensures.row a (omega (arith, second))),
      λ ps e. e,
    )
