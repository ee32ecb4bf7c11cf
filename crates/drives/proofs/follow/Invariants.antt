use Rattle.std.proofs.Common.{◌≡◌, List, length, take}
use Rattle.sheetlaw.specs.Calls.{Turn}
use Rattle.sheetlaw.specs.Step.{needs}
use Rattle.sheetlaw.specs.Runs.{turns}
use Rattle.sheetlaw.specs.NextRow.{row_of}
use Rattle.sheets.specs.Views.{contents, Stands}
use Rattle.drives.specs.Traces.{brought, left_over, driven}
use Rattle.drives.proofs.follow.Given as goal

abbrev pub invariant-loop-event : goal.invariant-loop-event
invariant-loop-event g l =
    let A = g.S.Kind.Letter.alphabet in
    let M = g.S.Automaton.model in
    let s = l.initial.sheet in
    let m = M s.automaton in
    let es = take l.event-index l.events in
    (l.sheet.k ≡ s.k) × (l.sheet.automaton ≡ s.automaton) × (l.work ≡ left_over (needs m) l.initial.work es)
    × ((t0 : List g.row.S-Kind.Denot) (h : List (Turn g.row.S-Kind.Denot)) → Stands A M t0 h s l.initial.text → Stands A M t0 (turns m s.k (row_of A m) t0 h (brought (needs m) l.initial.work es)) l.sheet l.text)
    × ((contents l.sheet, l.text) ≡ driven m s.k (row_of A m) (length l.initial.work) (contents s, l.initial.text) es)
