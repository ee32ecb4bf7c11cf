use Rattle.std.proofs.Common.{◌≡◌, ◌<◌, [], ◌∷◌, sym, ap, ◌∙◌, subst, arith}
use Rattle.std.proofs.lemmas.List.FromFn.{map-range_with_len_more}
use Rattle.models.specs.Alphabet.{Bears}
use Rattle.pages.specs.Pages.{Wrote}
use Rattle.pages.proofs.Writes.{wrote_then}
use Rattle.headings.proofs.show_alphabet.Given as given
use Rattle.headings.proofs.show_alphabet.Goals.{in-Some, in_default}
use Rattle.headings.proofs.show_alphabet.Goals as goal

-- the letter with the number of this turn
held : (g : given.Over) (c : goal.Joined-from_number g) → Bears g.L.Letter.alphabet.number c.loop-n.n c.from_number.result
held g c =
    let A = g.L.Letter.alphabet in
    let below : c.loop-n.n < A.size = omega (arith, c.count-n-end.ensures) in
    subst (Bears A.number c.loop-n.n) (sym c.from_number.ensures) (g.L.Letter.numbered.held c.loop-n.n below)

pub loop-n-preserved : goal.loop-n-preserved
loop-n-preserved g c =
    let A = g.L.Letter.alphabet in
    let n = c.loop-n.n in
    elim c.match-from_number.branch [
      | in-Some w ↦
          let same : A.number w.in-Some.letter ≡ n = subst (Bears A.number n) w.in-Some.is (held g c) in
          let byte : w.byte.result ≡ g.L.Printable.printed n = w.byte.ensures ∙ ap g.L.Printable.printed same in
          let more = map-range_with_len_more g.L.Printable.printed 0 n n (omega arith) in
          let last : Wrote c.loop-n.page c.match-from_number.page (g.L.Printable.printed n ∷ []) = subst (λ p. Wrote c.loop-n.page p (g.L.Printable.printed n ∷ [])) (sym w.page-is) (subst (λ b. Wrote c.loop-n.page w.push.new.self (b ∷ [])) byte w.push.ensures) in
          wrote_then _ (sym more) c.loop-n.invariant last
      | in_default w ↦ absurd (subst (Bears A.number n) w.in_default.is (held g c))
    ]
