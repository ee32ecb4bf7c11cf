-- All that can refuse a file from its window length on. Assumes nothing.
use Rattle.std.proofs.Common.{◌≡◌, ℕ, ◌+◌, List, length, Ok, Err, Option, Result, sym, refl, ap, ◌∙◌, arith, MatchResult}
use Rattle.std.proofs.lemmas.Result.{MatchResult-at_ok}
use Rattle.faults.specs.declared.Fault.{Fault}
use Rattle.models.specs.Alphabet.{Alphabet}
use Rattle.models.specs.Automaton.{Model}
use Rattle.files.specs.Refusals.{at_line}
use Rattle.files.specs.declared.refusals.Refusal.{Refusal}
use Rattle.stations.specs.Stations.{Item, bind, ended}
use Rattle.stations.specs.declared.Kind.{Kind}
use Rattle.listings.specs.Listings.{and_then}
use Rattle.sheetlaw.specs.Step.{Contents, opening}
use Rattle.texts.specs.Texts.{stray, unless_stray}
use Rattle.stepping.specs.Steps.{Steps, event, events, permitted, admitted, followed, steps}
use Rattle.stepping.specs.Outcomes.{Report, concluded}

-- one refusal after another, at one line
module _ {S : Type 0} (line : ℕ) (x : Result (Unit {0}) Fault) (y : Result (Unit {0}) Refusal) where
  in_turn : (o : Result S Fault) → and_then (at_line (bind o (λ _. x)) line) (λ _. y) ≡ and_then (at_line o line) (λ _. and_then (at_line x line) (λ _. y))
  in_turn (Ok s) = refl
  in_turn (Err f) = refl

-- an opened sheet stands for the contents that it shows
same_turn : {S C : Type 0} (o : Result S Fault) (v : Result C Fault) (shows : S → C) (P : S → Type 0) (x : Result (Unit {0}) Fault) → ((s : S) → P s → v ≡ Ok (shows s))
    → MatchResult o P (λ e. v ≡ Err e) → bind v (λ _. x) ≡ bind o (λ _. x)
same_turn (Ok s) v shows P x is h = ap (λ r. bind r (λ _. x)) (is s h)
same_turn (Err e) v shows P x is h = ap (λ r. bind r (λ _. x)) h

unlined : {S : Type 0} (o : Result S Fault) (l : ℕ) (s : S) → at_line o l ≡ Ok s → o ≡ Ok s
unlined (Ok x) l s e = cc
unlined (Err f) l s e = let z : ◌≡◌ {A = ℕ} 0 1 = cc in absurd (omega arith)

-- from what the calls on the way ensure: opening a sheet, reading the trace, and reading the rest
module _ {K S : Type 0} (m : Model K) (k : ℕ) (reads : ℕ → Option K) (bs : List ℕ) (line : ℕ) (rest : List Item) (o : Result S Fault) (shows : S → Contents K) (P : S → Type 0) (is : (s : S) → P s → opening m k ≡ Ok (shows s)) (eo : MatchResult o P (λ e. opening m k ≡ Err e)) where
  pub admitted_is : (l : ℕ) → l ≡ line → (a : Result S Refusal) → a ≡ at_line o l → (x : Result (Unit {0}) Fault) → x ≡ unless_stray (stray (event reads) bs) tt
      → (b : Result (Unit {0}) Refusal) → b ≡ at_line x l → (y : Result (Unit {0}) Refusal) → y ≡ ended (line + 1) rest
      → and_then a (λ _. and_then b (λ _. y)) ≡ admitted m k reads bs line rest
  admitted_is l el a ea x ex b eb y ey =
      let z = unless_stray (stray (event reads) bs) tt in
      ap (λ a. and_then a (λ _. and_then b (λ _. y))) (ea ∙ ap (at_line o) el)
      ∙ ap (λ b. and_then (at_line o line) (λ _. and_then b (λ _. y))) (eb ∙ ap (at_line x) el ∙ ap (λ x. at_line x line) ex)
      ∙ ap (λ y. and_then (at_line o line) (λ _. and_then (at_line z line) (λ _. y))) ey
      ∙ sym (in_turn line z (ended (line + 1) rest) o)
      ∙ sym (ap (λ r. and_then (at_line r line) (λ _. ended (line + 1) rest)) (same_turn o (opening m k) shows P z is eo))

  -- the sheet that is handed on was opened
  pub opened_is : (l : ℕ) (a : Result S Refusal) → a ≡ at_line o l → (s : S) → a ≡ Ok s → P s
  opened_is l a ea s e = MatchResult-at_ok P (λ e. opening m k ≡ Err e) s (unlined o l s (sym ea ∙ e)) eo

-- a trace that is admitted is followed
module _ {K : Type 0} (A : Alphabet K) (kind : Kind) (n : ℕ) (r : Option ℕ) (line : ℕ) (rest : List Item) (t : List K) (w : List ℕ) (m : Model K) (k : ℕ) (reads : ℕ → Option K) (bs : List ℕ) where
  abbrev pub reporting : Steps K → Report K
  reporting s = record { kind = kind; patterns = n; limit = r; steps = s }

  settled : (x : Result (Unit {0}) Fault) (s : Steps K) (y : Result (Unit {0}) Refusal)
      → and_then (at_line (bind x (λ _. Ok s)) line) (λ s. and_then y (λ _. Ok (reporting s))) ≡ and_then (and_then (at_line x line) (λ _. y)) (λ _. Ok (reporting s))
  settled (Ok u) s y = refl
  settled (Err f) s y = refl

  concluded_is : concluded kind n r line rest (steps A t w m k reads bs) ≡ and_then (admitted m k reads bs line rest) (λ _. Ok (reporting (followed A t w m k (length bs) (events reads bs))))
  concluded_is = settled (permitted m k reads bs) (followed A t w m k (length bs) (events reads bs)) (ended (line + 1) rest)

  pub concluded_ok : Ok tt ≡ admitted m k reads bs line rest → concluded kind n r line rest (steps A t w m k reads bs) ≡ Ok (reporting (followed A t w m k (length bs) (events reads bs)))
  concluded_ok e = concluded_is ∙ ap (λ z. and_then z (λ _. Ok (reporting (followed A t w m k (length bs) (events reads bs))))) (sym e)

  pub concluded_err : (f : Refusal) → Err f ≡ admitted m k reads bs line rest → concluded kind n r line rest (steps A t w m k reads bs) ≡ Err f
  concluded_err f e = concluded_is ∙ ap (λ z. and_then z (λ _. Ok (reporting (followed A t w m k (length bs) (events reads bs))))) (sym e)
