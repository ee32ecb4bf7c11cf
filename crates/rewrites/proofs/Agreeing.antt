-- What a file comes to is the same with and without what the work table holds afterwards. Assumes nothing.
--
-- Both accounts name the same things: those of rewritelaw, which tell of the work table too, are called `whole` here.
use Rattle.std.proofs.Common.{◌≡◌, ℕ, suc, ◌+◌, ◌*◌, ◌≤◌, Bool, true, false, cond, List, [], ◌∷◌, ◌++◌, length, drop, replicate, Some, None, Ok, Err, Option, Result, ◌&&◌, leb, nat_lt, nat_le, ◌==◌, refl, sym, ap, ◌∙◌, ⊎_elim, arith}
use Rattle.std.proofs.lemmas.Bool.{cond-true, cond-false}
use Rattle.std.proofs.lemmas.Bool.Decides.{leb_tells}
use Rattle.std.proofs.lemmas.List.{length-append, length-replicate, length-drop}
use Rattle.models.specs.Alphabet.{Alphabet}
use Rattle.models.specs.Automaton.{Model}
use Rattle.faults.specs.declared.Fault.{Fault}
use Rattle.letters.specs.Two.{two_alphabet, two_parsed, two_printed}
use Rattle.letters.specs.Trends.{trend_alphabet, trend_parsed, trend_printed}
use Rattle.letters.specs.Seepages.{seepage_alphabet, seepage_parsed, seepage_printed}
use Rattle.letters.specs.declared.two.Two.{Two as TwoLetter}
use Rattle.letters.specs.declared.trend.Trend.{Trend as TrendLetter}
use Rattle.letters.specs.declared.seepage.Seepage.{Seepage as SeepageLetter}
use Rattle.files.specs.Lines.{items}
use Rattle.files.specs.Refusals.{at_line}
use Rattle.files.specs.declared.refusals.Refusal.{Refusal}
use Rattle.texts.specs.Texts.{reading}
use Rattle.stations.specs.Stations.{Item, bind, early, headed, ended}
use Rattle.stations.specs.declared.Kind.{Kind}
use Rattle.stations.specs.declared.Kind.TheVariants.{Two, Trend, Seepage}
use Rattle.listings.specs.Listings.{Listing, list_model, limited, listed, fresh, and_then}
use Rattle.sheetlaw.specs.Step.{Contents, opening, close, needs, cleared}
use Rattle.sheetlaw.specs.declared.Counts.{Counts}
use Rattle.faults.specs.Causes.{bad_limit, large_pair}
use Rattle.runlaw.specs.Runs.{run_model}
use Rattle.pairlaw.specs.Pairs.{pair_model}
use Rattle.rewritelaw.specs.Traces as whole
use Rattle.rewritelaw.specs.Outcomes as entire
use Rattle.rewrites.specs.Traces.{Fed, fed_as, refusal, fed_gap, go_on, fed_letter, fed_byte, fed, Sheeted, sheeted, told, closed, rewritten}
use Rattle.rewrites.specs.Outcomes.{window_of, judged, body, body_of, outcome, printed, written}

-- a stretch of the trace, but for the work table
abbrev cut : {K : Type 0} → whole.Fed K → Fed K
cut f = fed_as f.answer f.sheet f.table

pub refusal_agrees : {T : Type 0} (r : Result T Fault) → refusal r ≡ whole.refusal r
refusal_agrees (Ok a) = refl
refusal_agrees (Err f) = refl

module _ {K : Type 0} (A : Alphabet K) (parsed : ℕ → Option ℕ) (m : Model K) (k : ℕ) where
  letter_agrees : (i : ℕ) (o : Option K) (s : Contents K) (t : List K) (v : List ℕ) → fed_letter A parsed m k (length v) i o s t ≡ cut (whole.fed_letter A parsed m k i o s t v)
  unfolding fed_letter whole.fed_letter
  letter_agrees i (Some x) s t v = refl
  letter_agrees i None s t v = refl

  cond_cut : (b : Bool) (x y : whole.Fed K) → cond b (cut x) (cut y) ≡ cut (cond b x y)
  cond_cut true x y = refl
  cond_cut false x y = refl

  byte_agrees : (i b : ℕ) (s : Contents K) (t : List K) (v : List ℕ) → fed_byte A parsed m k (length v) i b s t ≡ cut (whole.fed_byte A parsed m k i b s t v)
  byte_agrees i b s t v =
      ap (λ f. cond (b == 63) (fed_gap s t) f) (letter_agrees i (reading A parsed b) s t v)
      ∙ cond_cut (b == 63) (whole.fed_gap s t v) (whole.fed_letter A parsed m k i (reading A parsed b) s t v)

  -- the work table keeps its length
  cleared_long : (n : ℕ) (v : List ℕ) → length (cleared n v) ≡ length v
  cleared_long n v =
      ⊎_elim
      (λ h. ap length (cond-true (leb (suc (length v)) n) v (replicate n 0 ++ drop n v) h.0))
      (λ h.
      let few : n ≤ length v = omega arith in
      ap length (cond-false (leb (suc (length v)) n) v (replicate n 0 ++ drop n v) h.0) ∙ length-append (replicate n 0) (drop n v)
      ∙ ap (λ i. i + length (drop n v)) (length-replicate n 0) ∙ ap (λ i. n + i) (length-drop n v) ∙ omega arith)
      (leb_tells (suc (length v)) n)

  letter_long : (i : ℕ) (o : Option K) (s : Contents K) (t : List K) (v : List ℕ) → length (whole.fed_letter A parsed m k i o s t v).work ≡ length v
  unfolding whole.fed_letter
  letter_long i (Some x) s t v = cleared_long (needs m) v
  letter_long i None s t v = refl

  cond_long : (b : Bool) (x y : whole.Fed K) (n : ℕ) → length x.work ≡ n → length y.work ≡ n → length (cond b x y).work ≡ n
  cond_long true x y n a b = a
  cond_long false x y n a b = b

  byte_long : (i b : ℕ) (s : Contents K) (t : List K) (v : List ℕ) → length (whole.fed_byte A parsed m k i b s t v).work ≡ length v
  byte_long i b s t v =
      cond_long (b == 63) (whole.fed_gap s t v) (whole.fed_letter A parsed m k i (reading A parsed b) s t v) (length v) refl (letter_long i (reading A parsed b) s t v)

  on_agrees : (r : Result (Unit {0}) Fault) (s : Contents K) (t : List K) (v : List ℕ) (go : Contents K → List K → Fed K) (go' : Contents K → List K → List ℕ → whole.Fed K)
      → go s t ≡ cut (go' s t v) → go_on r s t go ≡ cut (whole.go_on r s t v go')
  on_agrees (Ok a) s t v go go' e = e
  on_agrees (Err f) s t v go go' e = refl

  fed_agrees : (bs : List ℕ) (i : ℕ) (s : Contents K) (t : List K) (v : List ℕ) → fed A parsed m k (length v) i bs s t ≡ cut (whole.fed A parsed m k i bs s t v)
  unfolding fed whole.fed
  fed_agrees [] i s t v = refl
  fed_agrees (b ∷ bs) i s t v =
      let f = whole.fed_byte A parsed m k i b s t v in
      ap (λ (x : Fed K). go_on x.answer x.sheet x.table (fed A parsed m k (length v) (i + 1) bs)) (byte_agrees i b s t v)
      ∙ ap (λ (n : ℕ). go_on f.answer f.sheet f.table (fed A parsed m k n (i + 1) bs)) (sym (byte_long i b s t v))
      ∙ on_agrees f.answer f.sheet f.table f.work (fed A parsed m k (length f.work) (i + 1) bs) (whole.fed A parsed m k (i + 1) bs) (fed_agrees bs (i + 1) f.sheet f.table f.work)

  -- what is answered and left, but for the work table: by a letter, by a byte, and by a stretch
  pub letter_cut : (i : ℕ) (o : Option K) (s s' : Contents K) (t t' : List K) (v v' : List ℕ) (r : Result (Unit {0}) Fault)
      → whole.fed_as r s' t' v' ≡ whole.fed_letter A parsed m k i o s t v → fed_as r s' t' ≡ fed_letter A parsed m k (length v) i o s t
  letter_cut i o s s' t t' v v' r e = ap cut e ∙ sym (letter_agrees i o s t v)

  pub byte_cut : (i b : ℕ) (s s' : Contents K) (t t' : List K) (v v' : List ℕ) (r : Result (Unit {0}) Fault)
      → whole.fed_as r s' t' v' ≡ whole.fed_byte A parsed m k i b s t v → fed_as r s' t' ≡ fed_byte A parsed m k (length v) i b s t
  byte_cut i b s s' t t' v v' r e = ap cut e ∙ sym (byte_agrees i b s t v)

  pub fed_cut : (bs : List ℕ) (i : ℕ) (s s' : Contents K) (t t' : List K) (v v' : List ℕ) (r : Result (Unit {0}) Fault)
      → whole.fed_as r s' t' v' ≡ whole.fed A parsed m k i bs s t v → fed_as r s' t' ≡ fed A parsed m k (length v) i bs s t
  fed_cut bs i s s' t t' v v' r e = ap cut e ∙ sym (fed_agrees bs i s t v)

module _ {K : Type 0} (A : Alphabet K) (parsed : ℕ → Option ℕ) (print : ℕ → ℕ) where
  -- what is told of a whole trace
  abbrev of_left : {E : Type 0} → whole.Left K E → Result Sheeted E
  of_left f = told A.number print f.answer f.table

  closing : (r : Result (Unit {0}) Fault) (s : Contents K) (t : List K) → bind r (λ _. Ok (sheeted A.number print (close s) t)) ≡ told A.number print (bind r (λ _. Ok (close s))) t
  closing (Ok a) s t = refl
  closing (Err f) s t = refl

  opened_agrees : (m : Model K) (k : ℕ) (bs : List ℕ) (t : List K) (v : List ℕ) (o : Result (Contents K) Fault)
      → bind o (λ s. closed A parsed print (length v) (fed A parsed m k (length v) 0 bs s t)) ≡ of_left (whole.unless_refused o t v (λ s. whole.closed (whole.fed A parsed m k 0 bs s t v)))
  opened_agrees m k bs t v (Ok s) =
      let f = whole.fed A parsed m k 0 bs s t v in
      ap (closed A parsed print (length v)) (fed_agrees A parsed m k bs 0 s t v) ∙ closing f.answer f.sheet f.table
  opened_agrees m k bs t v (Err f) = refl

  rewritten_agrees : (m : Model K) (k : ℕ) (bs : List ℕ) (t : List K) (v : List ℕ) → rewritten A parsed print (length v) m k bs t ≡ of_left (whole.rewritten A parsed m k bs t v)
  unfolding rewritten whole.rewritten
  rewritten_agrees m k bs t v = opened_agrees m k bs t v (opening m k)

  conds_agree : (a b : Bool) (x : Model K) (e f : Fault) (t : List K) (v : List ℕ) (go : Model K → whole.Left K Fault)
      → cond a (cond b (of_left (go x)) (Err e)) (Err f) ≡ of_left (whole.unless_refused (cond a (cond b (Ok x) (Err e)) (Err f)) t v go)
  conds_agree true true x e f t v go = refl
  conds_agree true false x e f t v go = refl
  conds_agree false true x e f t v go = refl
  conds_agree false false x e f t v go = refl

  limited_agrees : (M : Model K) (o : Option ℕ) (t : List K) (v : List ℕ) (go : Model K → Result Sheeted Fault) (go' : Model K → whole.Left K Fault)
      → ((m : Model K) → go m ≡ of_left (go' m)) → limited M A o go ≡ of_left (whole.unless_refused (limited M A o Ok) t v go')
  limited_agrees M None t v go go' each = each M
  limited_agrees M (Some r) t v go go' each =
      let within = nat_le 1 r && nat_le r 8 in
      let few = nat_le (M.count * (1 + r * A.size)) 4096 in
      let large = large_pair (M.count * (1 + r * A.size)) in
      ap (λ (y : Result Sheeted Fault). cond within (cond few y (Err large)) (Err (bad_limit r))) (each (pair_model M (run_model A r)))
      ∙ conds_agree within few (pair_model M (run_model A r)) large (bad_limit r) t v go'

  -- the run limit is judged first, and the trace under each automaton comes to the same
  judged_agrees : (n w : ℕ) (t : List K) (v : List ℕ) (d : Listing K) → judged A parsed print n w (length v) t d ≡ at_line (of_left (entire.judged A parsed n w t v d)) d.line
  judged_agrees n w t v d =
      ap (λ r. at_line r d.line)
      (limited_agrees (list_model A d.patterns) d.form.limit t v (λ m. rewritten A parsed print (length v) m (window_of d.form) d.trace t)
      (λ m. whole.rewritten A parsed m (window_of d.form) d.trace t v) (λ m. rewritten_agrees m (window_of d.form) d.trace t v))

  ends_agree : (r : Result Counts Fault) (t : List K) (line : ℕ) (z : Result (Unit {0}) Refusal)
      → and_then (at_line (told A.number print r t) line) (λ s. and_then z (λ _. Ok s)) ≡ told A.number print (and_then (at_line r line) (λ c. and_then z (λ _. Ok c))) t
  ends_agree (Ok c) t line (Ok a) = refl
  ends_agree (Ok c) t line (Err e) = refl
  ends_agree (Err f) t line z = refl

  read_agrees : (n w : ℕ) (t : List K) (v : List ℕ) (o : Result (Listing K) Refusal)
      → and_then o (λ d. and_then (judged A parsed print n w (length v) t d) (λ s. and_then (ended (d.line + 1) d.rest) (λ _. Ok s)))
      ≡ of_left (whole.unless_refused o t v (λ d. entire.ends A parsed n w t v d (entire.judged A parsed n w t v d)))
  read_agrees n w t v (Ok d) =
      let f = entire.judged A parsed n w t v d in
      ap (λ r. and_then r (λ s. and_then (ended (d.line + 1) d.rest) (λ _. Ok s))) (judged_agrees n w t v d)
      ∙ ends_agree f.answer f.table d.line (ended (d.line + 1) d.rest)
  read_agrees n w t v (Err e) = refl

  body_agrees : (n w : ℕ) (t : List K) (v : List ℕ) (l : ℕ) (xs : List Item) → body A parsed print n w (length v) t l xs ≡ of_left (entire.body A parsed n w t v l xs)
  body_agrees n w t v l xs = read_agrees n w t v (listed A (reading A parsed) n w l fresh [] xs)

  -- what is told of a trace that left the tables t' and v': under an automaton, and under that of the settings
  module _ (k : ℕ) (bs : List ℕ) (t : List K) (v : List ℕ) (r : Result Counts Fault) (t' : List K) (v' : List ℕ) where
    pub told_rewritten : (m : Model K) → whole.left_as r t' v' ≡ whole.rewritten A parsed m k bs t v → told A.number print r t' ≡ rewritten A parsed print (length v) m k bs t
    told_rewritten m e = ap of_left e ∙ sym (rewritten_agrees m k bs t v)

    pub told_limited : (M : Model K) (o : Option ℕ) → whole.left_as r t' v' ≡ whole.unless_refused (limited M A o Ok) t v (λ m. whole.rewritten A parsed m k bs t v)
        → told A.number print r t' ≡ limited M A o (λ m. rewritten A parsed print (length v) m k bs t)
    told_limited M o e =
        ap of_left e
        ∙ sym (limited_agrees M o t v (λ m. rewritten A parsed print (length v) m k bs t) (λ m. whole.rewritten A parsed m k bs t v) (λ m. rewritten_agrees m k bs t v))

  -- and of the lines of a body
  pub told_body : (n w : ℕ) (t : List K) (v : List ℕ) (l : ℕ) (xs : List Item) (r : Result Counts Refusal) (t' : List K) (v' : List ℕ)
      → whole.left_as r t' v' ≡ entire.body A parsed n w t v l xs → told A.number print r t' ≡ body A parsed print n w (length v) t l xs
  told_body n w t v l xs r t' v' e = ap of_left e ∙ sym (body_agrees n w t v l xs)

-- the same text and counts
abbrev as_sheeted : Result entire.Sheeted Refusal → Result Sheeted Refusal
as_sheeted (Ok s) = Ok (record { text = s.text; counts = s.counts })
as_sheeted (Err e) = Err e

told_agrees : {K : Type 0} (A : Alphabet K) (print : ℕ → ℕ) (r : Result Counts Refusal) (t : List K) → told A.number print r t ≡ as_sheeted (entire.told A print r t)
told_agrees A print (Ok c) t = refl
told_agrees A print (Err e) t = refl

printed_agrees : (r : Result entire.Sheeted Refusal) → printed (as_sheeted r) ≡ entire.printed r
printed_agrees (Ok s) = refl
printed_agrees (Err e) = refl

written_agrees : (r : Result entire.Sheeted Refusal) → written (as_sheeted r) ≡ entire.written r
written_agrees (Ok s) = refl
written_agrees (Err e) = refl

module _ (n w : ℕ) (a : List TwoLetter) (p : List TrendLetter) (q : List SeepageLetter) (v : List ℕ) where
  kind_agrees : (kind : Kind) (l : ℕ) (xs : List Item) → body_of n w (length v) a p q kind l xs ≡ as_sheeted (entire.body_of n w a p q v kind l xs).answer
  kind_agrees Two l xs =
      let r = entire.body two_alphabet two_parsed n w a v l xs in
      body_agrees two_alphabet two_parsed two_printed n w a v l xs ∙ told_agrees two_alphabet two_printed r.answer r.table
  kind_agrees Trend l xs =
      let r = entire.body trend_alphabet trend_parsed n w p v l xs in
      body_agrees trend_alphabet trend_parsed trend_printed n w p v l xs ∙ told_agrees trend_alphabet trend_printed r.answer r.table
  kind_agrees Seepage l xs =
      let r = entire.body seepage_alphabet seepage_parsed n w q v l xs in
      body_agrees seepage_alphabet seepage_parsed seepage_printed n w q v l xs ∙ told_agrees seepage_alphabet seepage_printed r.answer r.table

  head_agrees : (h : Result (Kind × (ℕ × List Item)) Refusal) → and_then h (λ h. body_of n w (length v) a p q h.0 h.1.0 h.1.1) ≡ as_sheeted (entire.after_head n w a p q v h).answer
  head_agrees (Ok h) = kind_agrees h.0 h.1.0 h.1.1
  head_agrees (Err e) = refl

  long_agrees : (b : Bool) (h : Result (Kind × (ℕ × List Item)) Refusal)
      → cond b (Err early) (and_then h (λ h. body_of n w (length v) a p q h.0 h.1.0 h.1.1)) ≡ as_sheeted (cond b (entire.unknown n w a p q v early) (entire.after_head n w a p q v h)).answer
  long_agrees true h = refl
  long_agrees false h = head_agrees h

  outcome_agrees : (bs : List ℕ) → outcome n w (length v) a p q bs ≡ as_sheeted (entire.outcome n w a p q v bs).answer
  outcome_agrees bs = long_agrees (nat_lt 60000 (length bs)) (headed 1 (items bs))

  pub same_printed : (bs : List ℕ) → printed (outcome n w (length v) a p q bs) ≡ entire.printed (entire.outcome n w a p q v bs).answer
  same_printed bs = ap printed (outcome_agrees bs) ∙ printed_agrees (entire.outcome n w a p q v bs).answer

  pub same_written : (bs : List ℕ) → written (outcome n w (length v) a p q bs) ≡ entire.written (entire.outcome n w a p q v bs).answer
  same_written bs = ap written (outcome_agrees bs) ∙ written_agrees (entire.outcome n w a p q v bs).answer
