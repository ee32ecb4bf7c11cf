use Rattle.std.proofs.Common.{◌≡◌, ◌-◌, length, ap, ◌∙◌}
use Rattle.sheetlaw.specs.Step.{window}
use Rattle.sheetlaw.specs.declared.Answer.TheVariants.{Kept}
use Rattle.sheets.specs.Stages.{shown}
use Rattle.sheets.specs.Views.{contents}
use Rattle.sheets.proofs.Outcomes.{ready_few, counted-few, counted-text, kept-answer, kept_leaves}
use Rattle.sheets.proofs.sheet.Sheet.carry_out.Goals as goal

pub invariant_of-self-clause-counted : goal.invariant_of-self-clause-counted
invariant_of-self-clause-counted g c =
    let s = c.args.self.now in
    counted-few s.k s.counts c.count-counts.result c.args.plan s.taken c.advance.new.self.taken c.count-counts.ensures (ap (λ v. v.taken) c.advance.ensures.leaves) s.counted

pub invariant_of-self-clause-written : goal.invariant_of-self-clause-written
invariant_of-self-clause-written g c =
    let s = c.args.self.now in
    let few = ready_few g.S.Kind.Letter.alphabet s.k (window s.k (contents s) c.args.letter) s.counts.text (length c.args.text.now) c.args.plan c.requires.ready s.most in
    counted-text s.k s.counts c.count-counts.result c.args.plan s.taken c.advance.new.self.taken c.count-counts.ensures (ap (λ v. v.taken) c.advance.ensures.leaves) few s.written

pub invariant_of-self-in-Skip-clause-counted : goal.invariant_of-self-in-Skip-clause-counted
invariant_of-self-in-Skip-clause-counted g c =
    let s = c.args.self.now in
    counted-few s.k s.counts c.count-counts.result c.args.plan s.taken c.advance.new.self.taken c.count-counts.ensures (ap (λ v. v.taken) c.advance.ensures.leaves) s.counted

pub invariant_of-self-in-Skip-clause-written : goal.invariant_of-self-in-Skip-clause-written
invariant_of-self-in-Skip-clause-written g c =
    let s = c.args.self.now in
    let few = ready_few g.S.Kind.Letter.alphabet s.k (window s.k (contents s) c.args.letter) s.counts.text (length c.args.text.now) c.args.plan c.requires.ready s.most in
    counted-text s.k s.counts c.count-counts.result c.args.plan s.taken c.advance.new.self.taken c.count-counts.ensures (ap (λ v. v.taken) c.advance.ensures.leaves) few s.written

pub invariant_of-self-in-Keep-clause-counted : goal.invariant_of-self-in-Keep-clause-counted
invariant_of-self-in-Keep-clause-counted g c =
    let s = c.args.self.now in
    counted-few s.k s.counts c.count-counts.result c.args.plan s.taken c.advance.new.self.taken c.count-counts.ensures (ap (λ v. v.taken) c.advance.ensures.leaves) s.counted

pub invariant_of-self-in-Keep-clause-written : goal.invariant_of-self-in-Keep-clause-written
invariant_of-self-in-Keep-clause-written g c =
    let s = c.args.self.now in
    let few = ready_few g.S.Kind.Letter.alphabet s.k (window s.k (contents s) c.args.letter) s.counts.text (length c.args.text.now) c.args.plan c.requires.ready s.most in
    counted-text s.k s.counts c.count-counts.result c.args.plan s.taken c.advance.new.self.taken c.count-counts.ensures (ap (λ v. v.taken) c.advance.ensures.leaves) few s.written

pub returns-in-Keep-clause-answers : goal.returns-in-Keep-clause-answers
returns-in-Keep-clause-answers g c =
    let s = c.args.self.now in
    let A = g.S.Kind.Letter.alphabet in
    let keeps = c.advance.ensures.keeps in
    let less : c.saturating_sub.result ≡ c.in-Keep.appended - s.k = c.saturating_sub.ensures ∙ ap (λ i. c.in-Keep.appended - i) keeps.0 in
    ap (Kept c.in-Keep.appended) less ∙ kept-answer A s.k (length c.args.text.now) (contents s) c.args.letter c.args.plan c.in-Keep.way c.in-Keep.appended c.in-Keep.is c.requires.ready

pub returns-in-Keep-clause-leaves : goal.returns-in-Keep-clause-leaves
returns-in-Keep-clause-leaves g c =
    let s = c.args.self.now in
    let A = g.S.Kind.Letter.alphabet in
    let moved = c.advance.ensures.leaves in
    let same : shown c.advance.new.self.running ≡ window s.k (contents s) c.args.letter = ap (λ v. v.running) moved in
    kept_leaves A s.k (length c.args.text.now) (contents s) c.args.letter c.args.plan c.in-Keep.way c.in-Keep.appended c.in-Keep.is c.requires.ready (shown c.advance.new.self.running) c.advance.new.self.taken c.count-counts.result same (ap (λ v. v.taken) moved) c.count-counts.ensures
