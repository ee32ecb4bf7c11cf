use Rattle.std.proofs.Common.{refl, ◌≡◌, ℕ, ◌+◌, List, [], ◌∷◌, ◌++◌, map, get_or, take, sym, ap, ◌∙◌, subst, arith}
use Rattle.std.proofs.lemmas.List.{take_more, map_push, length-map, length-take-le}
use Rattle.texts.specs.Texts.{reading, stray, spelled}
use Rattle.lists.specs.Words.{Spells}
use Rattle.lists.proofs.Spelt.{stray_push, stray-here, spelled_push, length-spelled}
use Rattle.lists.proofs.word.Spelling.read.Goals as goal

pub returns-in_default : goal.returns-in_default
returns-in_default g c =
    let reads = reading g.L.Letter.alphabet g.L.Printable.parsed in
    (c.loop-i.i, (stray-here reads c.args.bytes.now c.loop-i.i c.loop-i-test.true c.loop-i.invariant.0 (sym c.from_byte.ensures ∙ c.in_default.is), refl))

pub push-requires : goal.push-requires
push-requires g c =
    let reads = reading g.L.Letter.alphabet g.L.Printable.parsed in
    let so_far = take c.loop-i.i c.args.bytes.now in
    omega (arith, c.loop-i.invariant.1.1, length-map (spelled reads so_far) g.L.Letter.alphabet.number, length-spelled reads so_far c.loop-i.invariant.0, length-take-le c.loop-i.i c.args.bytes.now c.loop-i.auto.i-end)

pub loop-i-preserved : goal.loop-i-preserved
loop-i-preserved g c =
    let f = g.L.Letter.alphabet.number in
    let reads = reading g.L.Letter.alphabet g.L.Printable.parsed in
    let bytes = c.args.bytes.now in
    let i = c.loop-i.i in
    let b = get_or bytes i 0 in
    let x = c.in-Some.letter in
    let more = take_more bytes i 0 c.loop-i-test.true in
    let read : reads b ≡ _ = sym c.from_byte.ensures ∙ c.in-Some.is in
    let all : map f (spelled reads (take i bytes)) ++ (c.number.result ∷ []) ≡ map f (spelled reads (take (i + 1) bytes)) =
    ap (λ (n : ℕ). map f (spelled reads (take i bytes)) ++ (n ∷ [])) c.number.ensures ∙ sym (map_push f (spelled reads (take i bytes)) x) ∙ ap (map f) (sym (ap (spelled reads) more ∙ spelled_push reads (take i bytes) b x read)) in (
      ap (stray reads) more ∙ stray_push reads (take i bytes) b x c.loop-i.invariant.0 read,
      subst (λ (p : List ℕ). Spells c.push.new.self.first c.push.new.self.count p) all (c.push.ensures _ c.loop-i.invariant.1),
    )
