use Rattle.std.proofs.Common.{◌≡◌, ◌+◌, ◌&&◌, take, sym, refl, ap, ◌∙◌, arith}
use Rattle.std.proofs.lemmas.List.{take_all}
use Rattle.texts.specs.Texts.{reading}
use Rattle.stepping.specs.Steps.{events}
use Rattle.stepping.proofs.Traces.{past-none, past_more, past-at, events-with, events-without}
use Rattle.stepping.proofs.trace.step_through.Goals as goal
use Rattle.stepping.proofs.trace.step_through.Goals.{in-Some, in_default}

pub loop-byte-init : goal.loop-byte-init
loop-byte-init g c =
    (past-none g.S.Kind.Letter.alphabet g.S.Kind.Printable.printed g.S.Automaton.model c.args.sheet.now c.args.text.now c.args.work.now c.args.page.now, omega arith)

pub loop-byte-preserved : goal.loop-byte-preserved
loop-byte-preserved g c =
    let A = g.S.Kind.Letter.alphabet in
    let printed = g.S.Kind.Printable.printed in
    let M = g.S.Automaton.model in
    let reads = reading A g.S.Kind.Printable.parsed in
    let bs = c.args.trace.now in
    let s0 = c.args.sheet.now in
    let t0 = c.args.text.now in
    let w0 = c.args.work.now in
    let p0 = c.args.page.now in
    let i = c.loop-byte.byte-index in
    let l = c.loop-byte in
    let inv = c.loop-byte.invariant.0 in
    elim c.match-read_event.branch [
      | in-Some w ↦
          let e = w.in-Some.event in
          let done = w.step-taken.ensures in
          let last = w.step-taken.new in
          let now = events-with reads bs i c.loop-byte-test.true e (sym c.read_event.ensures ∙ w.in-Some.is) in
          let past = past_more A printed M s0 t0 w0 p0 (events reads (take i bs)) l.sheet l.text l.work l.page l.place l.all inv e
          last.sheet last.text last.work last.page w.step-taken.result (l.all && w.step-taken.result) (l.place + 1)
          done.page done.taken done.work done.keeps.0 done.keeps.1 done.stands refl refl in
          (past-at A printed M s0 t0 w0 p0 now w.sheet-is w.text-is w.work-is w.page-is w.place-is w.all-is past, omega (arith, w.place-is, c.loop-byte.invariant.1))
      | in_default w ↦
          let now = events-without reads bs i c.loop-byte-test.true (sym c.read_event.ensures ∙ w.in_default.is) in
          (past-at A printed M s0 t0 w0 p0 now w.sheet-is w.text-is w.work-is w.page-is w.place-is w.all-is inv, omega (arith, w.place-is, c.loop-byte.invariant.1))
    ]

pub returns : goal.returns
returns g c =
    let A = g.S.Kind.Letter.alphabet in
    let reads = reading A g.S.Kind.Printable.parsed in
    let bs = c.args.trace.now in
    let l = c.loop-byte in
    let all : take l.byte-index bs ≡ bs = take_all l.byte-index bs c.loop-byte-test.false in
    let past = past-at A g.S.Kind.Printable.printed g.S.Automaton.model c.args.sheet.now c.args.text.now c.args.work.now c.args.page.now (ap (events reads) (sym all)) refl refl refl refl refl refl l.invariant.0 in
    record {
      page = λ t0 h before. (past.stands t0 h before).lines;
      taken = λ t0 h before. (past.stands t0 h before).taken;
      work = past.left;
      keeps = (past.window, past.automaton);
      stands = λ t0 h before. (past.stands t0 h before).law;
    }
