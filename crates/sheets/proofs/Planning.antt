-- What is planned for a letter. Assumes nothing.
use Rattle.std.proofs.Common.{◌≡◌, ℕ, ◌+◌, ◌<◌, ◌≤◌, Bool, true, false, List, length, Some, None, Ok, Err, Option, sym, ap, ◌∙◌, subst, arith}
use Rattle.std.proofs.lemmas.List.{length-take-le}
use Rattle.faults.specs.Causes.{short_text}
use Rattle.models.specs.Alphabet.{Alphabet}
use Rattle.models.specs.Automaton.{Model}
use Rattle.joinlaw.specs.Bridges.{Bridge, row}
use Rattle.joins.specs.Ways.{told, added, Fit, Within, WayIs}
use Rattle.joins.specs.declared.ways.Way.{Way}
use Rattle.joins.specs.declared.ways.Way.TheVariants.{Overlap, Filling}
use Rattle.joins.proofs.Writings.{added-row, added-few}
use Rattle.sheetlaw.specs.Calls.{passes}
use Rattle.sheetlaw.specs.Step.{Contents, keep, window, needs, row_to, decide}
use Rattle.sheetlaw.specs.NextRow.{appended_by, row_of}
use Rattle.sheetlaw.proofs.Cases.{decide-wait, decide-long, decide-keep}
use Rattle.sheets.specs.Stages.{shown}
use Rattle.sheets.specs.Plans.{PlanIs, RowIs}
use Rattle.sheets.specs.declared.window.Window.{Window}
use Rattle.sheets.specs.declared.plan.Plan.TheVariants.{Wait, Keep}

pub length-shown : {K : Type 0} (w : Window K) → length (shown w) ≡ w.held
length-shown w = length-take-le w.held w.letters (omega (arith, w.whole, w.fits))

pub never_both : (b : Bool) → b ≡ true → b ≡ false → ⊥
never_both b t f = let z : ◌≡◌ {A = ℕ} 0 1 = cc in omega arith

-- a bridge that was found is the row
pub way_row : {K : Type 0} (A : Alphabet K) (n : ℕ) (w : List K) (o : Option Way) (b : Option (Bridge K)) → n ≤ 4096 → WayIs A n (length w) o b → RowIs A w o (appended_by b w)
way_row A n w (Some way) b le (e, f, i) = let few = added-few A w n way f i in (ap (λ c. appended_by c w) e, f, omega arith)
way_row A n w None b le e = ap (λ c. appended_by c w) e

-- a search whose tables have at most 4,096 places fills in fewer letters than these
way_few : {K : Type 0} (A : Alphabet K) (n : ℕ) (w : List K) (way : Way) → n ≤ 4096 → Fit A (length w) way → Within n way → added (length w) way < 4096 + length w
way_few A n w (Overlap o) le f i = omega arith
way_few A n w (Filling t) le f i = omega (arith, f.few, i)

pub found_few : {K : Type 0} (A : Alphabet K) (n : ℕ) (w : List K) (o : Option Way) (b : Option (Bridge K)) → n ≤ 4096 → WayIs A n (length w) o b
    → (way : Way) → o ≡ Some way → added (length w) way < 4096 + length w
found_few A n w o b le found way is = let f = subst (λ y. WayIs A n (length w) y b) is found in way_few A n w way le f.1 f.2

module _ {K : Type 0} (A : Alphabet K) (m : Model K) (k room : ℕ) (s : Contents K) (x : K) (v : List K) (is : v ≡ window k s x) (early : s.taken < 50000) where
  pub plan_wait : length v < k → PlanIs A k (window k s x) s.counts.text room (Ok Wait) (decide m k (row_of A m) (needs m) room s x)
  plan_wait lt =
      let short : length (window k s x) < k = subst (λ w. length w < k) is lt in
      (decide-wait m k (row_of A m) (needs m) room s x (omega arith) early short, short)

  module _ (long : length v ≡ k) (passing : passes m v ≡ true) (way : Way) (told-row : RowIs A v (Some way) (row_to (row_of A m) s.latest v)) (a : ℕ) (a-is : a ≡ added (length v) way) where
    whole : k ≤ length (window k s x)
    whole = subst (λ w. k ≤ length w) is (omega arith)

    passes_now : passes m (window k s x) ≡ true
    passes_now = ap (passes m) (sym is) ∙ passing

    here : row_to (row_of A m) s.latest (window k s x) ≡ Some (row (told A way) v)
    here = ap (row_to (row_of A m) s.latest) (sym is) ∙ told-row.0

    end_row : s.counts.text + length (row (told A way) v) ≡ s.counts.text + a
    end_row = ap (λ i. s.counts.text + i) (sym (added-row A v way told-row.1) ∙ sym a-is)

    pub plan_long : room < s.counts.text + a → decide m k (row_of A m) (needs m) room s x ≡ Err (short_text (s.counts.text + a))
    plan_long lt =
        decide-long m k (row_of A m) (needs m) room s x (omega arith) early whole passes_now (row (told A way) v) here (subst (λ i. room < i) (sym end_row) lt)
        ∙ ap (λ i. Err (short_text i)) end_row

    pub plan_keep : s.counts.text + a ≤ room → PlanIs A k (window k s x) s.counts.text room (Ok (Keep way a)) (decide m k (row_of A m) (needs m) room s x)
    plan_keep le =
        subst (λ w. (decide m k (row_of A m) (needs m) room s x ≡ Ok (keep w (row (told A way) w))) × ((length w ≡ k) × Fit A (length w) way × (a ≡ added (length w) way) × (s.counts.text + a ≤ room) × (a ≤ 4096 + length w))) is (
          decide-keep m k (row_of A m) (needs m) room s x (omega arith) early whole passes_now (row (told A way) v) here (subst (λ i. i ≤ room) (sym end_row) le) ∙ ap (λ w. Ok (keep w (row (told A way) v))) (sym is),
          (long, told-row.1, a-is, le, subst (λ i. i ≤ 4096 + length v) (sym a-is) told-row.2),
        )
