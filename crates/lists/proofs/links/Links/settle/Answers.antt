use Rattle.std.proofs.Common.{◌≡◌, ℕ, ◌+◌, ◌<◌, ◌/◌, min, List, length, sym, ap, ◌∙◌, subst, arith}
use Rattle.lists.specs.declared.record.Record.{Record}
use Rattle.lists.specs.Names.{names}
use Rattle.lists.specs.Lists.{columns}
use Rattle.lists.specs.Links.{Shape, Endings, Planted}
use Rattle.lists.specs.Linked.{word}
use Rattle.lists.proofs.Settling.{link_inside, link_other, tied_names, settled, settled-ends}
use Rattle.lists.proofs.links.Links.settle.Goals as goal

pub tie-requires : goal.tie-requires
tie-requires c =
    let l = c.args.self.now in
    let f = link_inside l c.args.q c.requires.inside.0 c.requires.inside.1 c.requires.linked c.link_of-link.result c.link_of-link.ensures in
    (omega (arith, l.room, l.tree.few), omega (arith, l.room, l.tree.few), omega (arith, l.tree.few))

pub inherit-requires : goal.inherit-requires
inherit-requires c =
    let l = c.args.self.now in
    let f = link_inside l c.args.q c.requires.inside.0 c.requires.inside.1 c.requires.linked c.link_of-link.result c.link_of-link.ensures in
    (omega (arith, l.tree.few), (omega (arith, l.tree.few), link_other l c.args.q c.requires.inside.0 c.requires.inside.1 c.requires.linked c.link_of-link.result c.link_of-link.ensures))

pub returns : goal.returns
returns c =
    let l = c.args.self.now in
    let ns = l.tree.records.now in
    let words = l.words.now in
    let u = l.tree.used in
    let q = c.args.q in
    let d : ℕ = length (word l q) in
    let f = c.link_of-link.result in
    let fin = c.tie.new.self.records.now in
    let to = c.tie.ensures.records in
    let same = c.tie.ensures.used in
    let mid = c.inherit.new.words in
    let last = c.plant.new.words in
    let long : length mid ≡ length words = omega (arith, c.inherit.auto.words) in
    let all : length last ≡ length words = omega (arith, c.plant.auto.words, long) in
    let cols : columns mid ≡ columns words = ap (λ (n : ℕ). min 32 (n / 512)) long in
    let planted : (a : ℕ) → a < columns words → Planted fin mid last q u a = λ a h. subst (λ (n : ℕ). Planted fin mid last q n a) same (c.plant.ensures.row a (omega (arith, cols))) in
    record {
      kept = (same, ap (names fin) same ∙ ap (λ (r : List Record). names r u) to ∙ tied_names l q c.requires.inside.0 c.requires.inside.1 c.requires.linked f c.link_of-link.ensures, all);
      linked = subst (λ (n : ℕ). Shape fin last n d (q + 1)) (sym same) (subst (λ (r : List Record). Shape r last u d (q + 1)) (sym to)
          (settled l q c.requires.inside.0 c.requires.inside.1 c.requires.linked f c.link_of-link.ensures mid last all
          c.inherit.ensures.row c.inherit.ensures.others
          (λ a h. subst (λ (r : List Record). Planted r mid last q u a) to (planted a h))
          c.plant.ensures.others));
      ended = λ ps e. subst (λ (n : ℕ). Endings fin n d (q + 1) ps) (sym same) (subst (λ (r : List Record). Endings r u d (q + 1) ps) (sym to) (settled-ends l q c.requires.inside.0 c.requires.inside.1 c.requires.linked f c.link_of-link.ensures ps e));
    }
