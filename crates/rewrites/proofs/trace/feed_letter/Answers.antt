use Rattle.std.proofs.Common.{Err, refl, ◌∙◌}
use Rattle.faults.specs.Causes.{no_letter}
use Rattle.sheets.specs.Views.{contents}
use Rattle.rewrites.proofs.Feeding.{letter-fed, none-fed}
use Rattle.rewrites.proofs.Agreeing.{refusal_agrees, letter_cut}
use Rattle.rewrites.proofs.trace.feed_letter.Goals as goal

pub returns-in-Some : goal.returns-in-Some
returns-in-Some g c =
    let A = g.S.Kind.Letter.alphabet in
    let parsed = g.S.Kind.Printable.parsed in
    let m = g.S.Automaton.model c.args.sheet.now.automaton in
    let k = c.args.sheet.now.k in
    let s = contents c.args.sheet.now in
    let s' = contents c.letter.new.self in
    let whole =
    letter-fed A parsed m k c.args.place c.args.read c.in-Some.letter s s' c.args.text.now c.letter.new.text c.args.work.now c.letter.new.work c.letter.result c.refused.result c.in-Some.is (c.refused.ensures ∙ refusal_agrees c.letter.result) c.letter.ensures.answers c.letter.ensures.leaves c.letter.ensures.writes c.letter.ensures.work in
    record {
      fed = letter_cut A parsed m k c.args.place c.args.read s s' c.args.text.now c.letter.new.text c.args.work.now c.letter.new.work c.refused.result whole;
      fed_whole = whole;
      keeps = c.letter.ensures.keeps;
    }

pub returns-in-None : goal.returns-in-None
returns-in-None g c =
    let A = g.S.Kind.Letter.alphabet in
    let parsed = g.S.Kind.Printable.parsed in
    let m = g.S.Automaton.model c.args.sheet.now.automaton in
    let k = c.args.sheet.now.k in
    let s = contents c.args.sheet.now in
    let whole = none-fed A parsed m k c.args.place c.args.read s c.args.text.now c.args.work.now (no_letter c.args.place) c.in-None.is refl in
    record {
      fed = letter_cut A parsed m k c.args.place c.args.read s s c.args.text.now c.args.text.now c.args.work.now c.args.work.now (Err (no_letter c.args.place)) whole;
      fed_whole = whole;
      keeps = (refl, refl);
    }
