use Rattle.std.proofs.Common.{◌≡◌, ℕ, ◌<◌, [], ◌∷◌, ◌++◌, length, get_or, take, is_some, Some, sym, ap, ◌∙◌, arith, below_more}
use Rattle.std.proofs.lemmas.List.{take_more, take_more_set, take_all}
use Rattle.texts.specs.Texts.{reading, spelled}
use Rattle.texts.proofs.Strays.{stray-here, stray-none}
use Rattle.joinings.proofs.Spelt.{spelled_push}
use Rattle.joinings.proofs.contexts.spell.Goals as goal

pub returns-in-None : goal.returns-in-None
returns-in-None g c =
    let reads = reading g.L.Letter.alphabet g.L.Printable.parsed in
    record {
      place = sym (stray-here reads c.loop-i.i c.args.bytes.now c.loop-i-test.true c.loop-i.invariant.0 (sym c.from_byte.ensures ∙ c.in-None.is));
      within = c.loop-i-test.true;
      letters = λ e. let z : ◌≡◌ {A = ℕ} 0 1 = cc in absurd (omega arith);
    }

pub loop-i-preserved : goal.loop-i-preserved
loop-i-preserved g c =
    let reads = reading g.L.Letter.alphabet g.L.Printable.parsed in
    let bytes = c.args.bytes.now in
    let i = c.loop-i.i in
    let x = c.in-Some.letter in
    let read : reads (get_or bytes i 0) ≡ Some x = sym c.from_byte.ensures ∙ c.in-Some.is in
    let room : i < length c.loop-i.table = omega (arith, c.requires, c.loop-i-test.true, c.loop-i.auto.table) in (
      below_more _ _ c.loop-i.invariant.0 (ap is_some read),
      take_more_set c.loop-i.table i x room ∙ ap (λ l. l ++ (x ∷ [])) c.loop-i.invariant.1 ∙ sym (ap (spelled reads) (take_more bytes i 0 c.loop-i-test.true) ∙ spelled_push reads (take i bytes) (get_or bytes i 0) x read),
    )

pub returns : goal.returns
returns g c =
    let reads = reading g.L.Letter.alphabet g.L.Printable.parsed in
    let bytes = c.args.bytes.now in
    let all = take_all c.loop-i.i bytes c.loop-i-test.false in
    let e : length bytes ≡ c.loop-i.i = omega arith in
    record {
      place = sym (stray-none reads bytes (λ k h. c.loop-i.invariant.0 k (omega (arith, c.loop-i-test.false))));
      within = tt;
      letters = λ _. ap (λ n. take n c.loop-i.table) e ∙ c.loop-i.invariant.1 ∙ ap (spelled reads) all;
    }
