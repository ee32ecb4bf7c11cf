use Rattle.std.proofs.Common.{◌<◌, [], ◌∷◌, ◌++◌, length, ap, arith, length-set}
use mathlib.Core.Logic.{∥∥₁_map}
use Rattle.lists.specs.declared.record.Record.{Record}
use Rattle.lists.specs.Lists.{columns}
use Rattle.lists.proofs.Marking.{taken-under, lists-taken}
use Rattle.lists.proofs.builder.Builder.take.Goals as goal

pub invariant_of-self : goal.invariant_of-self
invariant_of-self g c =
    let b = c.args.self.now in
    let mid = c.enter-under.new.self in
    let long = c.enter-under.ensures.length in
    let e = c.enter-under.ensures.entered in
    let room : c.enter-under.result < length mid.records.now = omega (arith, e.inside, mid.few) in
    record {
      fits = λ h. omega (arith, c.requires.room.0, long, ap length c.mark.ensures.records, length-set {A = Record});
      small = taken-under b.tree mid c.args.word.now c.enter-under.result room e c.mark.new.self c.last.result c.last.ensures c.mark.ensures.records c.mark.ensures.used (columns b.words.now) b.small c.requires.letters;
      held = ∥∥₁_map b.held (λ h. (h.0 ++ (c.args.word.now.letters.now ∷ []), lists-taken b.tree mid c.args.word.now c.enter-under.result room e c.mark.new.self c.last.result c.last.ensures c.mark.ensures.records c.mark.ensures.used long b.taken b.longest c.max-self.result c.max-self.ensures h.0 h.1));
      brief = omega (arith, c.max-self.ensures, b.brief);
    }

pub returns-clause-lists : goal.returns-clause-lists
returns-clause-lists g c =
    let b = c.args.self.now in
    let mid = c.enter-under.new.self in
    let e = c.enter-under.ensures.entered in
    let room : c.enter-under.result < length mid.records.now = omega (arith, e.inside, mid.few) in
    lists-taken b.tree mid c.args.word.now c.enter-under.result room e c.mark.new.self c.last.result c.last.ensures c.mark.ensures.records c.mark.ensures.used c.enter-under.ensures.length b.taken b.longest c.max-self.result c.max-self.ensures
