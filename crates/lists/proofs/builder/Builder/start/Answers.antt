use Rattle.std.proofs.Common.{◌≡◌, ◌≤◌, [], length, ap, ◌∙◌, arith}
use Rattle.std.proofs.lemmas.List.{get_or-set_same}
use Rattle.lists.specs.declared.record.Record.{Record}
use Rattle.lists.specs.Names.{blank, rec}
use Rattle.lists.proofs.Starting.{lists-none}
use Rattle.lists.proofs.builder.Builder.start.Given as given
use Rattle.lists.proofs.builder.Builder.start.Goals as goal
use Rattle.lists.proofs.builder.Builder.start.Goals.{Joined-records-ge-STATES, then-records-ge-STATES, else-records-ge-STATES}

-- the first record has no end mark
bare : (g : given.Over) (c : Joined-records-ge-STATES g) → 512 ≤ length c.if-records-ge-STATES.records → (rec c.if-records-ge-STATES.records 0).ends ≡ 0
bare g c long = elim c.if-records-ge-STATES.branch [
  | then-records-ge-STATES w ↦ ap (λ l. (rec l 0).ends) w.records-is ∙ ap (λ (m : Record). m.ends) (get_or-set_same c.args.records.now 0 blank blank (omega (arith, w.if-records-ge-STATES.true)))
  | else-records-ge-STATES w ↦ absurd (omega (arith, w.if-records-ge-STATES.false, c.if-records-ge-STATES.auto.records))
]

pub invariant_of-result-2 : goal.invariant_of-result-2
invariant_of-result-2 g c = record { fits = λ h. absurd (omega arith); small = λ i pos h. absurd (omega arith); held = ∣ ([], lists-none c.if-records-ge-STATES.records (bare g (goal.at.invariant_of-result-2 g c).Joined-records-ge-STATES)) ∣₁; brief = omega arith }
