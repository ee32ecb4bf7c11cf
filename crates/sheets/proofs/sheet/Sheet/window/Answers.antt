use Rattle.std.proofs.Common.{◌≡◌, ℕ, ◌-◌, ◌<◌, false, List, [], ◌∷◌, ◌++◌, length, ap, ◌∙◌, ⊎_elim, arith}
use Rattle.std.proofs.lemmas.List.{length_push}
use Rattle.models.specs.Automaton.{last}
use Rattle.sheets.specs.Stages.{shown, full}
use Rattle.sheets.proofs.Planning.{length-shown}
use Rattle.sheets.proofs.sheet.Sheet.window.Goals as goal

-- with fewer than k letters before
last_short : {K : Type 0} (k : ℕ) (w : List K) (x : K) → length w < k → w ++ x ∷ [] ≡ last k (w ++ x ∷ [])
last_short k w x h = let z : length (w ++ x ∷ []) - k ≡ 0 = simp length_push (omega arith) in rw z

pub returns-in-Opening-clause-letters : goal.returns-in-Opening-clause-letters
returns-in-Opening-clause-letters g c =
    let s = c.args.self.now in
    let w = shown s.running in
    let not_full : full s.stage ≡ false = ⊎_elim (ap full) (λ y. ap full y.1) c.in-Opening.is in
    let short : s.running.held < s.k = s.fewer not_full in
    let long = length-shown s.running in
    c.push.ensures.letters ∙ last_short s.k w c.args.letter (omega arith)
