-- What is printed of a good file is the shortest text that keeps the windows of its trace. Assumes nothing.
use Rattle.std.proofs.Common.{◌≡◌, ℕ, ◌+◌, ◌||◌, ltb, List, [], ◌∷◌, ◌++◌, map, length, take, Some, None, Ok, Err, Option, Result, sym, refl, ap, ◌∙◌, subst, arith}
use Rattle.std.proofs.lemmas.Bool.{cond_both}
use Rattle.faults.specs.declared.Fault.{Fault}
use Rattle.models.specs.Alphabet.{Alphabet, Numbered}
use Rattle.models.specs.Automaton.{Model}
use Rattle.letters.specs.Two.{two_alphabet, two_numbered, two_parsed, two_printed}
use Rattle.letters.specs.Trends.{trend_alphabet, trend_numbered, trend_parsed, trend_printed}
use Rattle.letters.specs.Seepages.{seepage_alphabet, seepage_numbered, seepage_parsed, seepage_printed}
use Rattle.letters.specs.declared.two.Two.{Two as TwoLetter}
use Rattle.letters.specs.declared.trend.Trend.{Trend as TrendLetter}
use Rattle.letters.specs.declared.seepage.Seepage.{Seepage as SeepageLetter}
use Rattle.files.specs.Lines.{items}
use Rattle.files.specs.Refusals.{at_line}
use Rattle.files.specs.declared.refusals.Refusal.{Refusal}
use Rattle.lists.specs.Taking.{cause}
use Rattle.lists.specs.Reading.{stray_cause, byte_cause}
use Rattle.texts.specs.Texts.{reading, stray, spelled}
use Rattle.stations.specs.Stations.{Item, Handed, nothing, a_pattern, the_trace, early, bind, onward, take_line, headed, ended}
use Rattle.stations.specs.declared.Form.{Form}
use Rattle.stations.specs.declared.Kind.{Kind}
use Rattle.stations.specs.declared.Kind.TheVariants.{Two, Trend, Seepage}
use Rattle.listings.specs.Listings.{Listing, list_model, limited, take_pattern, unless, hand, listed, fresh, and_then}
use Rattle.sheetlaw.specs.Rivals.{Has}
use Rattle.sheetlaw.specs.Calls.{kept, tally}
use Rattle.sheetlaw.specs.Step.{Contents, opening, opened, close}
use Rattle.sheetlaw.specs.Law.{text}
use Rattle.sheetlaw.specs.declared.Counts.{Counts}
use Rattle.rewritelaw.specs.Traces.{Left, unless_refused, closed, fed, rewritten}
use Rattle.rewritelaw.specs.Outcomes.{Sheeted, window_of, judged, ends, body, sheeted, told, unknown, body_of, after_head}
use Rattle.rewritelaw.specs.Laws.{events, KeptText, GoodBody, GoodOf, Good, GoodLaw}
use Rattle.rewritelaw.proofs.Patterns.{Listable, listable_none, listable_more, Settled, settled}
use Rattle.rewritelaw.proofs.Followings.{Taken, opened-taken}

-- a result that is there
err_ok : {T E : Type 0} {P : Type 0} (e : E) (x : T) → Err e ≡ Ok x → P
err_ok e x h = absurd (let z : ◌≡◌ {A = ℕ} 0 1 = cc in omega arith)

module _ {K : Type 0} (A : Alphabet K) (parsed : ℕ → Option ℕ) (n w : ℕ) where
  unstray : (o : Option ℕ) (rest : Option Fault) → stray_cause o rest ≡ None → rest ≡ None
  unstray (Some i) rest e = absurd (let z : ◌≡◌ {A = ℕ} 0 1 = cc in omega arith)
  unstray None rest e = e

  unrefused : {T : Type 0} (o : Option Fault) (x y : T) → unless o x ≡ Ok y → (o ≡ None) × (x ≡ y)
  unrefused None x y e = (refl, cc)
  unrefused (Some f) x y e = err_ok f y e

  pattern_listable : (ps qs : List (List K)) (bs : List ℕ) → Listable A ps → take_pattern A (reading A parsed) n w ps bs ≡ Ok qs → Listable A qs
  pattern_listable ps qs bs l e =
      let p = spelled (reading A parsed) bs in
      let u = unrefused (byte_cause A (reading A parsed) n w ps bs) (ps ++ (p ∷ [])) qs e in
      subst (Listable A) u.1 (listable_more A n w ps p l (unstray (stray (reading A parsed) bs) (cause A n w ps p) u.0))

  module _ (d : Listing K) where
    Fine : Form → List (List K) → (Form → List (List K) → Result (Listing K) Refusal) → Type 0
    Fine g qs go = Listable A qs → go g qs ≡ Ok d → Listable A d.patterns

    pattern-taken : (l : ℕ) (go : Form → List (List K) → Result (Listing K) Refusal) (f : Form) (ps : List (List K)) (bs : List ℕ) → ((qs : List (List K)) → Fine f qs go) → Listable A ps
        → (r : Result (List (List K)) Fault) → take_pattern A (reading A parsed) n w ps bs ≡ r → onward l r (λ qs. go f qs) ≡ Ok d → Listable A d.patterns
    unfolding Fine
    pattern-taken l go f ps bs fine s (Ok qs) e h = fine qs (pattern_listable ps qs bs s e) h
    pattern-taken l go f ps bs fine s (Err x) e h = err_ok _ d h

    handed_on : (l : ℕ) (ps : List (List K)) (xs : List Item) (go : Form → List (List K) → Result (Listing K) Refusal) (f : Form) (h : Handed) → ((g : Form) (qs : List (List K)) → Fine g qs go) → Listable A ps
        → hand A (reading A parsed) n w l ps xs go f h ≡ Ok d → Listable A d.patterns
    unfolding Fine
    handed_on l ps xs go f nothing fine s e = fine f ps s e
    handed_on l ps xs go f (a_pattern bs) fine s e = pattern-taken l go f ps bs (fine f) s (take_pattern A (reading A parsed) n w ps bs) refl e
    handed_on l ps xs go f (the_trace bs) fine s e = let same : record { form = f; patterns = ps; trace = bs; line = l; rest = xs } ≡ d = cc in subst (λ (x : Listing K). Listable A x.patterns) same s

    line_taken : (l : ℕ) (ps : List (List K)) (xs : List Item) (go : Form → List (List K) → Result (Listing K) Refusal) (r : Result (Form × Handed) Fault) → ((g : Form) (qs : List (List K)) → Fine g qs go) → Listable A ps
        → onward l r (λ t. hand A (reading A parsed) n w l ps xs go t.0 t.1) ≡ Ok d → Listable A d.patterns
    line_taken l ps xs go (Ok t) fine s e = handed_on l ps xs go t.0 t.1 fine s e
    line_taken l ps xs go (Err f) fine s e = err_ok _ d e

    pub listed_listable : (xs : List Item) (l : ℕ) (f : Form) (ps : List (List K)) → Listable A ps → listed A (reading A parsed) n w l f ps xs ≡ Ok d → Listable A d.patterns
    unfolding Fine
    listed_listable [] l f ps s e = err_ok early d e
    listed_listable (x ∷ xs) l f ps s e =
        line_taken l ps xs (λ g qs. listed A (reading A parsed) n w (l + 1) g qs xs) (bind x (take_line f)) (λ g qs q h. listed_listable xs (l + 1) g qs q h) s e

opening_is : {K : Type 0} (m : Model K) (k : ℕ) (s : Contents K) → opening m k ≡ Ok s → opened ≡ s
opening_is {K} m k s =
    cond_both (ltb k 2 || ltb 12 k) _ _ (λ (r : Result (Contents K) Fault). r ≡ Ok s → opened ≡ s) (λ _ e. err_ok _ s e) (λ _.
    cond_both (ltb k m.memory) _ _ (λ (r : Result (Contents K) Fault). r ≡ Ok s → opened ≡ s) (λ _ e. err_ok _ s e) (λ _ e. cc))

-- how a result that is there came about
bound : {T U : Type 0} (r : Result T Fault) (go : T → Result U Fault) (y : U) → bind r go ≡ Ok y → (x : T) × (r ≡ Ok x) × (go x ≡ Ok y)
bound (Ok x) go y e = (x, refl, e)
bound (Err f) go y e = err_ok f y e

then_ok : {T U : Type 0} (r : Result T Refusal) (go : T → Result U Refusal) (y : U) → and_then r go ≡ Ok y → (x : T) × (r ≡ Ok x) × (go x ≡ Ok y)
then_ok (Ok x) go y e = (x, refl, e)
then_ok (Err f) go y e = err_ok f y e

at_ok : {T : Type 0} (r : Result T Fault) (l : ℕ) (y : T) → at_line r l ≡ Ok y → r ≡ Ok y
at_ok (Ok x) l y e = let same : x ≡ y = cc in ap Ok same
at_ok (Err f) l y e = err_ok _ y e

refused_not : {X K E : Type 0} (o : Result X E) (t : List K) (v : List ℕ) (go : X → Left K E) (c : Counts) → (unless_refused o t v go).answer ≡ Ok c
    → (x : X) × (o ≡ Ok x) × ((go x).answer ≡ Ok c) × ((unless_refused o t v go).table ≡ (go x).table)
refused_not (Ok x) t v go c e = (x, refl, e, refl)
refused_not (Err f) t v go c e = err_ok f c e

module _ {K : Type 0} (A : Alphabet K) (numbered : Numbered A) (parsed : ℕ → Option ℕ) (printed : ℕ → ℕ) (ps : List (List K)) (l : Listable A ps) (r : Option ℕ) (m : Model K) (s : Settled A numbered ps l r m) (k : ℕ) (bs : List ℕ) (t : List K) (v : List ℕ) (c : Counts) where
  kept-text : (x : Contents K) → opening m k ≡ Ok x → (closed (fed A parsed m k 0 bs x t v)).answer ≡ Ok c → KeptText A printed ps r k (events A parsed bs) t (sheeted A printed c (fed A parsed m k 0 bs x t v).table)
  kept-text x o e =
      let new = opening_is m k x o in
      let f = fed A parsed m k 0 bs x t v in
      let b = bound f.answer (λ _. Ok (close f.sheet)) c e in
      let all = subst (λ x. (fed A parsed m k 0 bs x t v).answer ≡ Ok tt → Taken A numbered parsed m s.lawful k t (events A parsed bs) (fed A parsed m k 0 bs x t v).sheet (fed A parsed m k 0 bs x t v).table) new
      (opened-taken A numbered parsed m s.lawful k t (o ∙ ap Ok (sym new)) bs v) b.1 in
      let law = all.followed in
      let counts : c ≡ tally m k all.calls = sym (let same : close f.sheet ≡ c = cc in same) ∙ law.closed in
      record {
        automaton = m;
        lawful = s.lawful;
        passes = s.passes;
        calls = all.calls;
        all = all.all;
        each = all.each;
        sheet = f.sheet;
        table = f.table;
        followed = law;
        written = ap (λ (d : Counts). map (λ x. printed (A.number x)) (take d.text f.table)) counts;
        counts = counts;
        shortest =
            let windows = ap (kept m k) all.all in
            let best = law.shortest in (
              ((s.passes (text all.calls f.table)).0 best.0.0, subst (λ ws. Has ws (text all.calls f.table)) windows best.0.1),
              λ o h. best.1 o ((s.passes o).1 h.0, subst (λ ws. Has ws o) (sym windows) h.1),
            );
      }

module _ {K : Type 0} (A : Alphabet K) (numbered : Numbered A) (parsed : ℕ → Option ℕ) (printed : ℕ → ℕ) (n w : ℕ) (t : List K) (v : List ℕ) where
  judged_good : (d : Listing K) → Listable A d.patterns → (c : Counts) → (judged A parsed n w t v d).answer ≡ Ok c
      → KeptText A printed d.patterns d.form.limit (window_of d.form) (events A parsed d.trace) t (sheeted A printed c (judged A parsed n w t v d).table)
  unfolding rewritten
  judged_good d l c e =
      let go = λ (m : Model K). rewritten A parsed m (window_of d.form) d.trace t v in
      let a = refused_not (limited (list_model A d.patterns) A d.form.limit Ok) t v go c e in
      let m = a.0 in
      let s = settled A numbered d.patterns l d.form.limit m a.1 in
      let b = refused_not (opening m (window_of d.form)) t v (λ x. closed (fed A parsed m (window_of d.form) 0 d.trace x t v)) c a.2 in
      subst (λ u. KeptText A printed d.patterns d.form.limit (window_of d.form) (events A parsed d.trace) t (sheeted A printed c u)) (sym (a.3 ∙ b.3))
      (kept-text A numbered parsed printed d.patterns l d.form.limit m s (window_of d.form) d.trace t v c b.0 b.1 b.2)

  body_good : (i : ℕ) (xs : List Item) (c : Counts) → (body A parsed n w t v i xs).answer ≡ Ok c → GoodBody A parsed printed n w t i xs (sheeted A printed c (body A parsed n w t v i xs).table)
  body_good i xs c e =
      let all = listed A (reading A parsed) n w i fresh [] xs in
      let a = refused_not all t v (λ d. ends A parsed n w t v d (judged A parsed n w t v d)) c e in
      let d = a.0 in
      let b = then_ok (at_line (judged A parsed n w t v d).answer d.line) (λ c. and_then (ended (d.line + 1) d.rest) (λ _. Ok c)) c a.2 in
      let z = then_ok (ended (d.line + 1) d.rest) (λ _. Ok b.0) c b.2 in
      let same : b.0 ≡ c = let e = z.2 in cc in
      record {
        says = d;
        listing = a.1;
        rewritten = subst (λ u. KeptText A printed d.patterns d.form.limit (window_of d.form) (events A parsed d.trace) t (sheeted A printed c u)) (sym a.3)
            (judged_good d (listed_listable A parsed n w d xs i fresh [] (listable_none A) a.1) c (at_ok (judged A parsed n w t v d).answer d.line c (b.1 ∙ ap Ok same)));
      }

  told_good : (i : ℕ) (xs : List Item) (r : Result Counts Refusal) → (body A parsed n w t v i xs).answer ≡ r → (s : Sheeted) → told A printed r (body A parsed n w t v i xs).table ≡ Ok s → GoodBody A parsed printed n w t i xs s
  told_good i xs (Ok c) e s h =
      let same : sheeted A printed c (body A parsed n w t v i xs).table ≡ s = cc in
      subst (GoodBody A parsed printed n w t i xs) same (body_good i xs c e)
  told_good i xs (Err f) e s h = err_ok f s h

module _ (n w : ℕ) (a : List TwoLetter) (p : List TrendLetter) (q : List SeepageLetter) (v : List ℕ) where
  kind_good : (k : Kind) (l : ℕ) (xs : List Item) (s : Sheeted) → (body_of n w a p q v k l xs).answer ≡ Ok s → GoodOf n w a p q v k l xs s
  kind_good Two l xs s e = told_good two_alphabet two_numbered two_parsed two_printed n w a v l xs (body two_alphabet two_parsed n w a v l xs).answer refl s e
  kind_good Trend l xs s e = told_good trend_alphabet trend_numbered trend_parsed trend_printed n w p v l xs (body trend_alphabet trend_parsed n w p v l xs).answer refl s e
  kind_good Seepage l xs s e = told_good seepage_alphabet seepage_numbered seepage_parsed seepage_printed n w q v l xs (body seepage_alphabet seepage_parsed n w q v l xs).answer refl s e

  head_good : (bs : List ℕ) (s : Sheeted) (h : Result (Kind × (ℕ × List Item)) Refusal) → headed 1 (items bs) ≡ h → (after_head n w a p q v h).answer ≡ Ok s → Good n w a p q v bs s
  head_good bs s (Ok h) eh e = record { kind = h.0; line = h.1.0; rest = h.1.1; head = eh; body = kind_good h.0 h.1.0 h.1.1 s e }
  head_good bs s (Err f) eh e = err_ok f s e

  pub good : (bs : List ℕ) → GoodLaw n w a p q v bs
  good bs s =
      cond_both (ltb 60000 (length bs)) (unknown n w a p q v early) (after_head n w a p q v (headed 1 (items bs))) (λ o. o.answer ≡ Ok s → Good n w a p q v bs s) (λ _ e. err_ok early s e) (λ _ e. head_good bs s (headed 1 (items bs)) refl e)
