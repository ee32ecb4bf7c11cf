use Rattle.std.proofs.Common.{ℕ, List, [], Some, None, Option, IsSome, Ok, sym, refl, ap, ◌∙◌, subst, inl, inr, ⊎_elim, arith}
use Rattle.models.specs.Alphabet.{Bears}
use Rattle.sheetlaw.specs.Step.{Contents}
use Rattle.sheetlaw.specs.Law.{Followed}
use Rattle.sheetlaw.specs.NextRow.{row_of}
use Rattle.sheetlaw.proofs.Openings.{fits_opening, opening_bad}
use Rattle.sheetlaw.proofs.NextRows.{after-opening}
use Rattle.sheets.proofs.sheet.Sheet.open.Goals as goal

-- there is a letter with the number 0
borne : {K : Type 0} (number : K → ℕ) (n : ℕ) (o : Option K) → Bears number n o → IsSome o
borne number n (Some x) e = refl
borne number n None e = absurd e

pub returns-then-k-lt2 : goal.returns-then-k-lt2
returns-then-k-lt2 g c = opening_bad (g.S.Automaton.model c.args.automaton) c.args.k (⊎_elim inl (λ h. inr h.1) c.then-k-lt2.either)

pub returns : goal.returns
returns g c =
    let A = g.S.Kind.Letter.alphabet in
    let m = g.S.Automaton.model c.args.automaton in
    let k = c.args.k in
    let opens = fits_opening m k (record { some = omega arith; few = omega arith; recalls = omega arith }) in
    let none = sym c.empty.ensures.0 in
    let all : List g.row.S-Kind.Denot → Contents g.row.S-Kind.Denot = λ r. record { running = r; latest = None; taken = 0; counts = record { letters = 0; kept = 0; skipped = 0; text = 0; filled = 0 } } in
    (opens ∙ ap (λ r. Ok (all r)) none, refl, refl, λ t. subst (λ r. Followed m A.number k (row_of A m) t [] (all r) t) none (after-opening A g.S.Kind.Letter.numbered m (g.S.Automaton.lawful _) k opens t))

pub unwrap-blank-requires : goal.unwrap-blank-requires
unwrap-blank-requires g c =
    let A = g.S.Kind.Letter.alphabet in
    let numbered = g.S.Kind.Letter.numbered in
    rw c.from_number.ensures (borne A.number 0 (A.letter 0) (numbered.held 0 (omega (arith, numbered.some))))
