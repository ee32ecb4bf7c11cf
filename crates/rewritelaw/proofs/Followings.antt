-- A trace that is taken to its end is a list of calls of a sheet. Assumes nothing.
use Rattle.std.proofs.Common.{◌≡◌, ℕ, ◌+◌, true, false, cond, eqb, List, [], ◌∷◌, ◌++◌, length, Some, None, Ok, Err, Option, Result, sym, refl, ap, ◌∙◌, subst, append_assoc, append-nil, arith, length-append}
use Rattle.faults.specs.declared.Fault.{Fault}
use Rattle.models.specs.Alphabet.{Alphabet, Numbered}
use Rattle.models.specs.Automaton.{Model, Lawful}
use Rattle.texts.specs.Texts.{reading}
use Rattle.sheetlaw.specs.Calls.{Turn, letter, gap, adds, taken}
use Rattle.sheetlaw.specs.Step.{Contents, opened, opening, needs, answers, leaves, writes, cleared, pauses, leaves_gap}
use Rattle.sheetlaw.specs.Law.{Followed}
use Rattle.sheetlaw.specs.NextRow.{row_of}
use Rattle.sheetlaw.specs.declared.Answer.{Answer}
use Rattle.sheetlaw.specs.declared.Answer.TheVariants.{Pending, Skipped, Kept}
use Rattle.sheetlaw.specs.declared.Event.{Event}
use Rattle.sheetlaw.specs.declared.Event.TheVariants.{Letter, Gap}
use Rattle.sheetlaw.proofs.NextRows.{after-opening, after-letter, after-gap}
use Rattle.rewritelaw.specs.Traces.{Fed, refusal, go_on, fed_gap, fed_letter, fed_byte, fed}
use Rattle.rewritelaw.specs.Laws.{letter_event, event, events}

-- an answered letter adds itself to what is taken
answered : {K : Type 0} (x : K) (v left : List ℕ) (a : Answer) → (adds (letter x v (Ok a) left)).events ≡ Letter x ∷ []
answered x v left Pending = refl
answered x v left Skipped = refl
answered x v left (Kept n f) = refl

was_ok : {T : Type 0} (r : Result T Fault) → refusal r ≡ Ok tt → (a : T) × (r ≡ Ok a)
was_ok (Ok a) e = (a, refl)
was_ok (Err f) e = absurd (let z : ◌≡◌ {A = ℕ} 0 1 = cc in omega arith)

module _ {K : Type 0} (A : Alphabet K) (numbered : Numbered A) (parsed : ℕ → Option ℕ) (m : Model K) (laws : Lawful m) (k : ℕ) (t0 : List K) where
  -- after the calls h the letters and gaps es are taken, and none was refused
  pub record Taken (es : List (Event K)) (s : Contents K) (t : List K) : Type 0 where
    pub calls : List (Turn K)
    pub followed : Followed m A.number k (row_of A m) t0 calls s t
    pub all : taken calls ≡ es
    pub each : length calls ≡ length es

  taken-opened : opening m k ≡ Ok opened → Taken [] opened t0
  taken-opened o = record { calls = []; followed = after-opening A numbered m laws k o t0; all = refl; each = refl }

  module _ (es : List (Event K)) (s : Contents K) (t : List K) (past : Taken es s t) where
    -- one call more, which is taken
    one_more : (c : Turn K) (e : Event K) (s' : Contents K) (t' : List K) → (adds c).events ≡ e ∷ [] → Followed m A.number k (row_of A m) t0 (c ∷ past.calls) s' t' → Taken (es ++ (e ∷ [])) s' t'
    one_more c e s' t' one f = record {
      calls = c ∷ past.calls;
      followed = f;
      all = ap (λ l. l ++ (adds c).events) past.all ∙ ap (λ l. es ++ l) one;
      each = omega (arith, past.each, length-append es (e ∷ []));
    }

    gap-taken : pauses s ≡ Ok tt → Taken (es ++ (Gap ∷ [])) (leaves_gap s) t
    gap-taken e = one_more (gap (Ok tt)) Gap (leaves_gap s) t refl (after-gap A numbered m laws k t0 past.calls s t past.followed (Ok tt) (leaves_gap s) (sym e) refl)

    letter-taken : (x : K) (v : List ℕ) → refusal (answers m k (row_of A m) (length v) (length t) s x) ≡ Ok tt
        → Taken (es ++ (Letter x ∷ [])) (leaves m k (row_of A m) (length v) (length t) s x) (writes m k (row_of A m) (length v) s x t)
    letter-taken x v e =
        let a = was_ok (answers m k (row_of A m) (length v) (length t) s x) e in
        one_more (letter x v (Ok a.0) (cleared (needs m) v)) (Letter x) (leaves m k (row_of A m) (length v) (length t) s x) (writes m k (row_of A m) (length v) s x t) (answered x v (cleared (needs m) v) a.0)
        (after-letter A numbered m laws k t0 past.calls s t past.followed x v (cleared (needs m) v) (Ok a.0) (leaves m k (row_of A m) (length v) (length t) s x) (writes m k (row_of A m) (length v) s x t) (sym a.1) refl refl refl)

    option_taken : (i : ℕ) (o : Option K) (v : List ℕ) → (fed_letter A parsed m k i o s t v).answer ≡ Ok tt → Taken (es ++ letter_event o) (fed_letter A parsed m k i o s t v).sheet (fed_letter A parsed m k i o s t v).table
    unfolding fed_letter
    option_taken i (Some x) v e = letter-taken x v e
    option_taken i None v e = absurd (let z : ◌≡◌ {A = ℕ} 0 1 = cc in omega arith)

    byte_taken : (i b : ℕ) (v : List ℕ) → (fed_byte A parsed m k i b s t v).answer ≡ Ok tt → Taken (es ++ event A parsed b) (fed_byte A parsed m k i b s t v).sheet (fed_byte A parsed m k i b s t v).table
    byte_taken i b v =
        elim (eqb b 63) as (λ z. (cond z (fed_gap s t v) (fed_letter A parsed m k i (reading A parsed b) s t v)).answer ≡ Ok tt
        → Taken (es ++ cond z (Gap ∷ []) (letter_event (reading A parsed b))) (cond z (fed_gap s t v) (fed_letter A parsed m k i (reading A parsed b) s t v)).sheet (cond z (fed_gap s t v) (fed_letter A parsed m k i (reading A parsed b) s t v)).table)
        [ true ↦ gap-taken | false ↦ option_taken i (reading A parsed b) v ]

  -- a trace that is taken to its end
  abbrev pub Whole : List (Event K) → List ℕ → Fed K → Type 0
  Whole es bs f = f.answer ≡ Ok tt → Taken (es ++ events A parsed bs) f.sheet f.table

  -- a byte, and then what is left
  onward : (es : List (Event K)) (b : ℕ) (bs : List ℕ) (f : Fed K) (go : Contents K → List K → List ℕ → Fed K)
      → (f.answer ≡ Ok tt → Whole (es ++ event A parsed b) bs (go f.sheet f.table f.work))
      → (r : Result (Unit {0}) Fault) → f.answer ≡ r → Whole es (b ∷ bs) (go_on r f.sheet f.table f.work go)
  onward es b bs f go rest (Ok u) e all =
      let g = go f.sheet f.table f.work in
      subst (λ l. Taken l g.sheet g.table) (append_assoc es (event A parsed b) (events A parsed bs)) (rest e all)
  onward es b bs f go rest (Err d) e all = absurd (let z : ◌≡◌ {A = ℕ} 0 1 = cc in omega arith)

  pub trace-taken : (bs : List ℕ) (es : List (Event K)) (i : ℕ) (s : Contents K) (t : List K) (v : List ℕ) → Taken es s t → Whole es bs (fed A parsed m k i bs s t v)
  unfolding fed
  trace-taken [] es i s t v past = λ e. subst (λ l. Taken l s t) (sym (append-nil es)) past
  trace-taken (b ∷ bs) es i s t v past =
      let f = fed_byte A parsed m k i b s t v in
      onward es b bs f (fed A parsed m k (i + 1) bs) (λ e. trace-taken bs (es ++ event A parsed b) (i + 1) f.sheet f.table f.work (byte_taken es s t past i b v e)) f.answer refl

  pub opened-taken : opening m k ≡ Ok opened → (bs : List ℕ) (v : List ℕ) → Whole [] bs (fed A parsed m k 0 bs opened t0 v)
  opened-taken o bs v = trace-taken bs [] 0 opened t0 v (taken-opened o)
