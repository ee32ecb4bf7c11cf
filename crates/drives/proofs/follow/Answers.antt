use Rattle.std.proofs.Common.{◌≡◌, ℕ, ◌+◌, List, [], ◌∷◌, ◌++◌, length, take, sym, ap, ◌∙◌, subst, arith}
use Rattle.std.proofs.lemmas.List.{take_more, take_all}
use Rattle.sheetlaw.specs.Calls.{Turn}
use Rattle.sheetlaw.specs.Step.{needs, cleared}
use Rattle.sheetlaw.specs.Runs.{turns}
use Rattle.sheetlaw.specs.NextRow.{row_of}
use Rattle.sheetlaw.specs.declared.Event.TheVariants.{Letter, Gap}
use Rattle.sheets.specs.Views.{contents, Stands}
use Rattle.sheets.specs.declared.sheet.Sheet.{Sheet}
use Rattle.drives.specs.Traces.{brought, left_over, one_more, driven}
use Rattle.drives.proofs.Givings.{left_over-more, driven-more, more-letter, more-gap, next-letter, next-gap}
use Rattle.drives.proofs.follow.Goals as goal
use Rattle.drives.proofs.follow.Goals.{in-Letter, in-Gap}

pub loop-event-preserved : goal.loop-event-preserved
loop-event-preserved g c =
    let A = g.S.Kind.Letter.alphabet in
    let M = g.S.Automaton.model in
    let s0 = c.args.sheet.now in
    let m = M s0.automaton in
    let first = c.args.work.now in
    let events = c.args.events.now in
    let i = c.loop-event.event-index in
    let es = take i events in
    let now = take (i + 1) events in
    let s = c.loop-event.sheet in
    let inv = c.loop-event.invariant in
    let more = take_more events i c.event-item.result (omega arith) in
    let Kept-on : Sheet g.row.S.Denot g.row.S-Kind.Denot g.S.Automaton g.S.Kind.Letter → List g.row.S-Kind.Denot → List ℕ → Type 0 = λ s' t' w'.
    (s'.k ≡ s0.k) × (s'.automaton ≡ s0.automaton) × (w' ≡ left_over (needs m) first now)
    × ((t0 : List g.row.S-Kind.Denot) (h : List (Turn g.row.S-Kind.Denot)) → Stands A M t0 h s0 c.args.text.now → Stands A M t0 (turns m s0.k (row_of A m) t0 h (brought (needs m) first now)) s' t')
    × ((contents s', t') ≡ driven m s0.k (row_of A m) (length first) (contents s0, c.args.text.now) now) in
    let one_on = one_more m s0.k (row_of A m) (length first) in
    let on = driven m s0.k (row_of A m) (length first) (contents s0, c.args.text.now) in
    elim c.match-event.branch [
      | in-Letter w ↦
          let x = w.in-Letter.letter in
          let done = w.letter.ensures in
          let last = w.letter.new in
          let one : now ≡ es ++ Letter x ∷ [] = more ∙ ap (λ e. es ++ e ∷ []) (sym c.event-item.is ∙ w.in-Letter.is) in
          subst (λ q. Kept-on q c.match-event.text c.match-event.work) (sym w.sheet-is)
          (subst (λ q. Kept-on last.self q c.match-event.work) (sym w.text-is)
          (subst (λ q. Kept-on last.self last.text q) (sym w.work-is) (
            done.keeps.0 ∙ inv.0,
            done.keeps.1 ∙ inv.1,
            done.work ∙ ap (λ v. cleared (needs (M v)) c.loop-event.work) inv.1 ∙ ap (cleared (needs m)) inv.2 ∙ sym (left_over-more (needs m) first es (Letter x)) ∙ ap (left_over (needs m) first) (sym one),
            λ t0 h past.
                let held = inv.3 t0 h past in
                subst (λ q. Stands A M t0 q last.self last.text)
                (next-letter A M s.automaton s0.automaton s.k s0.k inv.1 inv.0 t0 h first c.loop-event.work es inv.2 (contents s) c.loop-event.text held x w.letter.result last.work done.answers done.work
                ∙ ap (λ l. turns m s0.k (row_of A m) t0 h (brought (needs m) first l)) (sym one))
                (done.stands t0 (turns m s0.k (row_of A m) t0 h (brought (needs m) first es)) held),
            more-letter A M s.automaton s0.automaton s.k s0.k (length c.loop-event.work) (length first) inv.1 inv.0 c.loop-event.auto.work (contents s) c.loop-event.text x (contents last.self) last.text done.leaves done.writes
                ∙ ap (λ u. one_on u (Letter x)) inv.4 ∙ sym (driven-more m s0.k (row_of A m) (length first) (contents s0, c.args.text.now) es (Letter x)) ∙ ap on (sym one),
          )))
      | in-Gap w ↦
          let done = w.gap.ensures in
          let last = w.gap.new in
          let one : now ≡ es ++ Gap ∷ [] = more ∙ ap (λ e. es ++ e ∷ []) (sym c.event-item.is ∙ w.in-Gap.is) in
          subst (λ q. Kept-on q c.match-event.text c.match-event.work) (sym w.sheet-is)
          (subst (λ q. Kept-on last.self q c.match-event.work) (sym w.text-is)
          (subst (λ q. Kept-on last.self c.loop-event.text q) (sym w.work-is) (
            done.keeps.0 ∙ inv.0,
            done.keeps.1 ∙ inv.1,
            inv.2 ∙ sym (left_over-more (needs m) first es Gap) ∙ ap (left_over (needs m) first) (sym one),
            λ t0 h past.
                let held = inv.3 t0 h past in
                subst (λ q. Stands A M t0 q last.self c.loop-event.text)
                (next-gap A M s.automaton s0.automaton s.k s0.k inv.1 inv.0 t0 h first c.loop-event.work es inv.2 (contents s) c.loop-event.text held w.gap.result done.answers
                ∙ ap (λ l. turns m s0.k (row_of A m) t0 h (brought (needs m) first l)) (sym one))
                (done.stands t0 (turns m s0.k (row_of A m) t0 h (brought (needs m) first es)) c.loop-event.text held),
            more-gap A M s.automaton s0.automaton s.k s0.k (length c.loop-event.work) (length first) inv.1 inv.0 c.loop-event.auto.work (contents s) c.loop-event.text (contents last.self) done.leaves
                ∙ ap (λ u. one_on u Gap) inv.4 ∙ sym (driven-more m s0.k (row_of A m) (length first) (contents s0, c.args.text.now) es Gap) ∙ ap on (sym one),
          )))
    ]

pub returns : goal.returns
returns g c =
    let es = c.args.events.now in
    let all : take c.loop-event.event-index es ≡ es = take_all c.loop-event.event-index es (omega arith) in
    let inv = c.loop-event.invariant in
    let A = g.S.Kind.Letter.alphabet in
    let M = g.S.Automaton.model in
    let s = c.args.sheet.now in
    let m = M s.automaton in
    record {
      keeps = (inv.0, inv.1);
      work = inv.2 ∙ ap (left_over (needs m) c.args.work.now) all;
      leaves = inv.4 ∙ ap (driven m s.k (row_of A m) (length c.args.work.now) (contents s, c.args.text.now)) all;
      stands = λ t0 h past. subst (λ l. Stands A M t0 (turns m s.k (row_of A m) t0 h (brought (needs m) c.args.work.now l)) c.loop-event.sheet c.loop-event.text) all (inv.3 t0 h past);
    }
