use Rattle.std.proofs.Common.{◌≡◌, [], ◌∷◌, ◌++◌, None, Ok, sym, ◌∙◌, subst, rules}
use Rattle.files.specs.Lines.{items, meant}
use Rattle.stations.specs.Stations.{bind, take_line, a_pattern}
use Rattle.lists.specs.History.{Holds}
use Rattle.lists.specs.Taking.{refused}
use Rattle.lists.specs.Reading.{byte_cause}
use Rattle.texts.specs.Texts.{reading, spelled}
use Rattle.listings.proofs.Patterns.{listed-pattern, reached-pattern, taking_unrefused}
use Rattle.listings.proofs.read.Goals as goal

pub loop-line-preserved : goal.loop-line-preserved
loop-line-preserved g c n m ps h =
    let A = g.L.Letter.alphabet in
    let reads = reading A g.L.Printable.parsed in
    let bytes = c.in-Some-Pattern.bytes.now in
    let now = c.loop-line.invariant n m ps h in
    let qs = now.0 in
    let taken : refused c.add_bytes.result ≡ None = search rules in
    let none : byte_cause A reads n m qs bytes ≡ None = sym (c.add_bytes.ensures.cause n m qs now.1.0) ∙ taken in
    let handed : bind (meant c.in-Some.line) (take_line c.loop-line.form) ≡ Ok (c.next_part.new.form, a_pattern bytes) = search rules in
    let more : Holds A n m c.add_bytes.new.self (qs ++ (spelled reads bytes ∷ [])) = subst (Holds A n m c.add_bytes.new.self) (taking_unrefused c.add_bytes.result qs (spelled reads bytes) taken) (c.add_bytes.ensures.holds n m qs now.1.0) in (
      qs ++ (spelled reads bytes ∷ []),
      (
        more,
        listed-pattern A reads n m c.loop-line.lines.number c.next_line.new.self.number c.loop-line.form c.next_part.new.form qs bytes (meant c.in-Some.line) (items c.loop-line.lines.rest.now) (items c.next_line.new.self.rest.now) c.in-Some.ensures.number c.in-Some.ensures.items handed none ∙ now.1.1,
        reached-pattern A reads n m c.loop-line.lines.number c.next_line.new.self.number c.loop-line.form c.next_part.new.form qs bytes (meant c.in-Some.line) (items c.loop-line.lines.rest.now) (items c.next_line.new.self.rest.now) c.in-Some.ensures.number c.in-Some.ensures.items handed none ∙ now.1.2,
      ),
    )

pub loop-line-preserved-in-None : goal.loop-line-preserved-in-None
loop-line-preserved-in-None g c n m ps h = let now = c.loop-line.invariant n m ps h in search rules

pub returns-in_err-at_line : goal.returns-in_err-at_line
returns-in_err-at_line g c = record {
  answer = λ n m ps h. let now = c.loop-line.invariant n m ps h in search rules;
  left = λ n m ps h. let now = c.loop-line.invariant n m ps h in search rules;
}

pub returns-in_err-at_line-in-Some-Pattern : goal.returns-in_err-at_line-in-Some-Pattern
returns-in_err-at_line-in-Some-Pattern g c = record {
  answer = λ n m ps h.
      let now = c.loop-line.invariant n m ps h in
      let cause = c.add_bytes.ensures.cause n m now.0 now.1.0 in
      search rules;
  left = λ n m ps h.
      let now = c.loop-line.invariant n m ps h in
      let cause = c.add_bytes.ensures.cause n m now.0 now.1.0 in
      let holds = c.add_bytes.ensures.holds n m now.0 now.1.0 in
      search rules;
}

pub returns-in-Some-Trace : goal.returns-in-Some-Trace
returns-in-Some-Trace g c = record {
  answer = λ n m ps h. let now = c.loop-line.invariant n m ps h in search rules;
  left = λ n m ps h. let now = c.loop-line.invariant n m ps h in search rules;
}

pub returns : goal.returns
returns g c = record {
  answer = λ n m ps h. let now = c.loop-line.invariant n m ps h in search rules;
  left = λ n m ps h. let now = c.loop-line.invariant n m ps h in search rules;
}
