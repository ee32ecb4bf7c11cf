-- What is left where a plan is carried out. Assumes nothing.
use Rattle.std.proofs.Common.{◌≡◌, ℕ, ◌+◌, ◌-◌, ◌*◌, ◌≤◌, List, length, Some, sym, ap, ◌∙◌, subst, arith}
use Rattle.models.specs.Alphabet.{Alphabet}
use Rattle.joinlaw.specs.Bridges.{row}
use Rattle.joins.specs.Ways.{told}
use Rattle.joins.specs.declared.ways.Way.{Way}
use Rattle.joins.proofs.Writings.{added-row}
use Rattle.sheetlaw.specs.Step.{Contents, window, answer, count, carry}
use Rattle.sheetlaw.specs.declared.Answer.TheVariants.{Kept}
use Rattle.sheetlaw.specs.declared.Counts.{Counts}
use Rattle.sheets.specs.Plans.{planned, Ready, Few, counted}
use Rattle.sheets.specs.declared.plan.Plan.{Plan}
use Rattle.sheets.specs.declared.plan.Plan.TheVariants.{Wait, Skip, Keep}

pub ready_few : {K : Type 0} (A : Alphabet K) (k : ℕ) (w : List K) (end room : ℕ) (o : Plan) → Ready A k w end room o → k ≤ 12 → Few o
ready_few A k w end room Wait r i = tt
ready_few A k w end room Skip r i = tt
ready_few A k w end room (Keep way a) (long, fit, is, fits, few) i = omega arith

-- one more letter or gap is taken, so the counts stay within their bounds
module _ (k : ℕ) (c d : Counts) (o : Plan) (t u : ℕ) (is : d ≡ counted k c o) (more : u ≡ t + 1) where
  pub counted-few : c.letters + c.kept + c.skipped ≤ 3 * t → d.letters + d.kept + d.skipped ≤ 3 * u
  counted-few h = subst (λ e. e.letters + e.kept + e.skipped ≤ 3 * u) (sym is) (by_plan o)
    where
      by_plan : (o : Plan) → (counted k c o).letters + (counted k c o).kept + (counted k c o).skipped ≤ 3 * u
      by_plan Wait = omega arith
      by_plan Skip = omega arith
      by_plan (Keep way a) = omega arith

  pub counted-text : Few o → c.text + c.filled ≤ 9000 * t → d.text + d.filled ≤ 9000 * u
  counted-text few h = subst (λ e. e.text + e.filled ≤ 9000 * u) (sym is) (by_plan o few)
    where
      by_plan : (o : Plan) → Few o → (counted k c o).text + (counted k c o).filled ≤ 9000 * u
      by_plan Wait f = omega arith
      by_plan Skip f = omega arith
      by_plan (Keep way a) f = omega arith

-- a window that is kept
module _ {K : Type 0} (A : Alphabet K) (k room : ℕ) (s : Contents K) (x : K) (o : Plan) (way : Way) (a : ℕ) (is : o ≡ Keep way a) (ready : Ready A k (window k s x) s.counts.text room o) where
  pub so : Ready A k (window k s x) s.counts.text room (Keep way a)
  so = subst (Ready A k (window k s x) s.counts.text room) is ready

  abbrev r : List K
  r = row (told A way) (window k s x)

  long : a ≡ length r
  long = so.2 ∙ added-row A (window k s x) way so.1

  pub kept-answer : Kept a (a - k) ≡ answer k (planned A (window k s x) o)
  kept-answer = ap (λ i. Kept i (i - k)) long ∙ ap (λ q. answer k (planned A (window k s x) q)) (sym is)

  pub kept_leaves : (u : List K) (t : ℕ) (d : Counts) → u ≡ window k s x → t ≡ s.taken + 1 → d ≡ counted k s.counts o
      → ◌≡◌ {A = Contents K} (record { running = u; latest = Some u; taken = t; counts = d }) (carry k s x (planned A (window k s x) o))
  kept_leaves u t d e f g =
      let counts : d ≡ count k s.counts (planned A (window k s x) (Keep way a)) = g ∙ ap (counted k s.counts) is ∙ ap (λ i. counted k s.counts (Keep way i)) long in
      ap (λ v. record { running = v; latest = Some v; taken = t; counts = d }) e
      ∙ ap (λ i. record { running = window k s x; latest = Some (window k s x); taken = i; counts = d }) f
      ∙ ap (λ c. record { running = window k s x; latest = Some (window k s x); taken = s.taken + 1; counts = c }) counts
      ∙ ap (λ q. carry k s x (planned A (window k s x) q)) (sym is)
