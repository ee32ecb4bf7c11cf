use Rattle.std.proofs.Common.{Some, refl, ap, ◌∙◌}
use Rattle.faults.specs.Causes.{full_list}
use Rattle.lists.proofs.Adding.{cause-full, cause-none, holds_more}
use Rattle.lists.proofs.builder.Builder.judge.Goals as goal

pub returns-then-full-clause-cause : goal.returns-then-full-clause-cause
returns-then-full-clause-cause g c n m ps p s h =
    ap Some (ap full_list c.patterns.ensures)
    ∙ cause-full g.L.Letter.alphabet n m c.args.self.now ps h c.args.spelling.now p s c.in_ok-word.word.letters.now c.in_ok-word.ensures (c.if-not-roomy.ensures.0 refl) c.if-full.ensures

pub returns-clause-cause : goal.returns-clause-cause
returns-clause-cause g c n m ps p s h =
    cause-none g.L.Letter.alphabet n m c.args.self.now ps h c.args.spelling.now p s c.in_ok-word.word.letters.now c.in_ok-word.ensures (c.if-not-roomy.ensures.0 refl) c.if-full.ensures

pub returns-clause-holds : goal.returns-clause-holds
returns-clause-holds g c n m ps p s h =
    holds_more g.L.Letter.alphabet n m c.args.self.now ps h c.args.spelling.now p s c.in_ok-word.word.letters.now c.in_ok-word.ensures (c.if-not-roomy.ensures.0 refl)
    c.take.new.self c.take.ensures.length c.take.ensures.words c.take.ensures.lists
