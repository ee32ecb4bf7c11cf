-- The refusal of a file is the first in file order. Assumes nothing.
use Rattle.std.proofs.Common.{◌≡◌, ℕ, suc, ◌+◌, ◌-◌, ◌<◌, ◌≤◌, ltb, ◌⊎◌, List, [], ◌∷◌, length, take, Some, None, Ok, Err, Option, Result, sym, refl, ap, ◌∙◌, subst, inl, inr, ⊎_elim, arith}
use Rattle.std.proofs.lemmas.Bool.{cond_both, cond-false, le-ltb}
use Rattle.faults.specs.declared.Fault.{Fault}
use Rattle.models.specs.Alphabet.{Alphabet}
use Rattle.letters.specs.Two.{two_alphabet, two_parsed, two_printed}
use Rattle.letters.specs.Trends.{trend_alphabet, trend_parsed, trend_printed}
use Rattle.letters.specs.Seepages.{seepage_alphabet, seepage_parsed, seepage_printed}
use Rattle.letters.specs.declared.two.Two.{Two as TwoLetter}
use Rattle.letters.specs.declared.trend.Trend.{Trend as TrendLetter}
use Rattle.letters.specs.declared.seepage.Seepage.{Seepage as SeepageLetter}
use Rattle.files.specs.Lines.{items}
use Rattle.files.specs.Refusals.{at_line}
use Rattle.files.specs.declared.refusals.Refusal.{Refusal}
use Rattle.texts.specs.Texts.{reading}
use Rattle.stations.specs.Stations.{Item, Handed, nothing, a_pattern, the_trace, early, bind, onward, first_line, kind_or, headed, last_line, ended, take_line}
use Rattle.stations.specs.declared.Form.{Form}
use Rattle.stations.specs.declared.Kind.{Kind}
use Rattle.stations.specs.declared.Kind.TheVariants.{Two, Trend, Seepage}
use Rattle.listings.specs.Listings.{Listing, take_pattern, hand, listed, fresh, and_then}
use Rattle.sheetlaw.specs.declared.Counts.{Counts}
use Rattle.rewritelaw.specs.Traces.{unless_refused}
use Rattle.rewritelaw.specs.Outcomes.{Sheeted, judged, ends, body, told, unknown, body_of, after_head, outcome}
use Rattle.rewritelaw.specs.Laws.{Unfaulted, First, FirstLaw}

-- Reads is what comes of the lines after the line l.
abbrev Reads : Type 0 → Type 0
Reads T = List Item → Result T Refusal

-- refused at a later line: the lines before it have no fault, and whatever comes after it, it is refused so
record Beyond {T : Type 0} (l : ℕ) (R : Reads T) (xs : List Item) (e : Refusal) : Type 0 where
  past : l < e.line
  within : e.line ≤ l + length xs
  before : Unfaulted (R (take (e.line - l - 1) xs))
  after : (ys : List Item) → take (e.line - l) ys ≡ take (e.line - l) xs → R ys ≡ Err e

-- at no line; at the line l itself, whatever comes after it; or at a later one
abbrev Where : {T : Type 0} → ℕ → Reads T → List Item → Refusal → Type 0
Where l R xs e = (e.line ≡ 0) ⊎ (((e.line ≡ l) × ((ys : List Item) → R ys ≡ Err e)) ⊎ Beyond l R xs e)

abbrev At : {T : Type 0} → ℕ → Reads T → List Item → Type 0
At l R xs = (e : Refusal) → R xs ≡ Err e → Where l R xs e

same_err : {T : Type 0} (e f : Refusal) → ◌≡◌ {A = Result T Refusal} (Err e) (Err f) → e ≡ f
same_err e f h = cc

-- one line more
module _ {T : Type 0} (l : ℕ) (R : Reads T) (S : Item → Reads T) (step : (x : Item) (xs : List Item) → R (x ∷ xs) ≡ S x xs) (calm : Unfaulted (R [])) where
  cut_same : (n : ℕ) (x : Item) (xs ys : List Item) → take (suc n) ys ≡ take (suc n) (x ∷ xs) → (zs : List Item) × (ys ≡ x ∷ zs) × (take n zs ≡ take n xs)
  cut_same n x xs [] e = absurd (let z : ◌≡◌ {A = ℕ} 0 1 = cc in omega arith)
  cut_same n x xs (y ∷ ys) e =
      let here : y ≡ x = cc in
      let rest : take n ys ≡ take n xs = cc in
      (ys, ap (λ z. z ∷ ys) here, rest)

  one_more : (x : Item) (xs : List Item) → At (l + 1) (S x) xs → At l R (x ∷ xs)
  one_more x xs at e h =
      ⊎_elim inl (λ o. ⊎_elim
      (λ here.
      let line = here.0 in
      let none : (e.line - l) - 1 ≡ 0 = omega (arith, line) in
      let one : e.line - l ≡ 1 = omega (arith, line) in
      inr (inr (record {
        past = omega (arith, line);
        within = omega (arith, line);
        before = subst (λ k. Unfaulted (R (take k (x ∷ xs)))) (sym none) calm;
        after = λ ys same.
            let c = cut_same 0 x xs ys (subst (λ k. take k ys ≡ take k (x ∷ xs)) one same) in
            ap R c.1 ∙ step x c.0 ∙ here.1 c.0;
      })))
      (λ b.
      let far = b.past in
      let some : (e.line - l) - 1 ≡ suc ((e.line - (l + 1)) - 1) = omega (arith, far) in
      let more : e.line - l ≡ suc (e.line - (l + 1)) = omega (arith, far) in
      inr (inr (record {
        past = omega (arith, far);
        within = omega (arith, b.within);
        before = subst (λ k. Unfaulted (R (take k (x ∷ xs)))) (sym some) (subst Unfaulted (sym (step x (take ((e.line - (l + 1)) - 1) xs))) b.before);
        after = λ ys same.
            let c = cut_same (e.line - (l + 1)) x xs ys (subst (λ k. take k ys ≡ take k (x ∷ xs)) more same) in
            ap R c.1 ∙ step x c.0 ∙ b.after c.0 c.2;
      }))) o) (at e (sym (step x xs) ∙ h))

-- what comes of one line, and then of those after it
module _ {T X : Type 0} (l : ℕ) (go : X → Reads T) where
  line_then : (r : Result X Fault) (xs : List Item) → ((x : X) → At l (go x) xs) → At l (λ ys. onward l r (λ x. go x ys)) xs
  line_then (Ok x) xs at = at x
  line_then (Err f) xs at = λ e h. inr (inl (sym (ap (λ (e : Refusal). e.line) (same_err (record { fault = f; line = l }) e h)), λ ys. h))

-- another answer of the same lines
module _ {T U : Type 0} (l : ℕ) (R : Reads T) (R' : Reads U) (to : (xs : List Item) (e : Refusal) → R xs ≡ Err e → R' xs ≡ Err e) (from : (xs : List Item) (e : Refusal) → R' xs ≡ Err e → R xs ≡ Err e) where
  calm_too : (xs : List Item) → (o : Result U Refusal) → R' xs ≡ o → Unfaulted (R xs) → Unfaulted o
  calm_too xs (Ok y) h u = tt
  calm_too xs (Err e) h u = subst Unfaulted (from xs e h) u

  alike : (xs : List Item) → At l R xs → At l R' xs
  alike xs at e h =
      ⊎_elim inl (λ o. ⊎_elim
      (λ here. inr (inl (here.0, λ ys. to ys e (here.1 ys))))
      (λ b. inr (inr (record {
        past = b.past;
        within = b.within;
        before = calm_too (take ((e.line - l) - 1) xs) (R' (take ((e.line - l) - 1) xs)) refl b.before;
        after = λ ys same. to ys e (b.after ys same);
      }))) o) (at e (from xs e h))

same_line : {T : Type 0} (l : ℕ) (R R' : Reads T) → ((xs : List Item) → R xs ≡ R' xs) → (xs : List Item) → At l R xs → At l R' xs
same_line l R R' e = alike l R R' (λ xs f h. sym (e xs) ∙ h) (λ xs f h. e xs ∙ h)

-- the lines after the trace
ended-first : (xs : List Item) (l : ℕ) → At l (ended (l + 1)) xs
ended-first [] l = λ e h. absurd (let z : ◌≡◌ {A = ℕ} 0 1 = cc in omega arith)
ended-first (x ∷ xs) l =
    one_more l (ended (l + 1)) (λ x xs. onward (l + 1) (bind x last_line) (λ _. ended ((l + 1) + 1) xs)) (λ x xs. refl) tt x xs
    (line_then (l + 1) (λ _. ended ((l + 1) + 1)) (bind x last_line) xs (λ _. ended-first xs (l + 1)))

-- a value beside what comes of the lines
module _ {T U : Type 0} (f : U) where
  beside : Result T Refusal → Result U Refusal
  beside r = and_then r (λ _. Ok f)

  beside_to : (r : Result T Refusal) (e : Refusal) → r ≡ Err e → beside r ≡ Err e
  unfolding beside
  beside_to r e h = ap (λ r. and_then r (λ _. Ok f)) h

  beside_from : (r : Result T Refusal) (e : Refusal) → beside r ≡ Err e → r ≡ Err e
  unfolding beside
  beside_from (Ok x) e h = absurd (let z : ◌≡◌ {A = ℕ} 0 1 = cc in omega arith)
  beside_from (Err g) e h = let same = same_err g e h in ap Err same

module _ {K : Type 0} (A : Alphabet K) (parsed : ℕ → Option ℕ) (n w : ℕ) (t : List K) (v : List ℕ) where
  finish : Result (Listing K) Refusal → Result Counts Refusal
  finish o = (unless_refused o t v (λ d. ends A parsed n w t v d (judged A parsed n w t v d))).answer

  said : ℕ → Form → List (List K) → List Item → Result Counts Refusal
  said l f ps xs = finish (listed A (reading A parsed) n w l f ps xs)

  -- a line is refused as it is, whatever is done with what it says
  finish_onward : {X : Type 0} (l : ℕ) (r : Result X Fault) (k : X → Result (Listing K) Refusal) → finish (onward l r k) ≡ onward l r (λ x. finish (k x))
  unfolding finish
  finish_onward l (Ok x) k = refl
  finish_onward l (Err f) k = refl

  -- what a line hands on
  hands : ℕ → List (List K) → Form × Handed → Reads Counts
  hands l ps h xs = finish (hand A (reading A parsed) n w l ps xs (λ g qs. listed A (reading A parsed) n w (l + 1) g qs xs) h.0 h.1)

  -- the trace line, and then remarks
  trace-line : (l : ℕ) (ps : List (List K)) (f : Form) (bs : List ℕ) (xs : List Item) (r : Result Counts Fault)
      → At l (λ xs. and_then (at_line r l) (λ c. and_then (ended (l + 1) xs) (λ _. Ok c))) xs
  unfolding beside
  trace-line l ps f bs xs (Ok c) = alike l (ended (l + 1)) (λ xs. beside c (ended (l + 1) xs)) (λ xs. beside_to c (ended (l + 1) xs)) (λ xs. beside_from c (ended (l + 1) xs)) xs (ended-first xs l)
  trace-line l ps f bs xs (Err x) = λ e h. inr (inl (sym (ap (λ (e : Refusal). e.line) (same_err (record { fault = x; line = l }) e h)), λ ys. h))

  hands_first : (l : ℕ) (ps : List (List K)) (f : Form) (h : Handed) (xs : List Item) → ((g : Form) (qs : List (List K)) → At l (said (l + 1) g qs) xs) → At l (hands l ps (f, h)) xs
  unfolding said hands finish
  hands_first l ps f nothing xs rest = rest f ps
  hands_first l ps f (a_pattern bs) xs rest =
      same_line l (λ xs. onward l (take_pattern A (reading A parsed) n w ps bs) (λ qs. said (l + 1) f qs xs)) (hands l ps (f, a_pattern bs)) (λ xs. sym (finish_onward l (take_pattern A (reading A parsed) n w ps bs) (λ qs. listed A (reading A parsed) n w (l + 1) f qs xs))) xs
      (line_then l (λ qs. said (l + 1) f qs) (take_pattern A (reading A parsed) n w ps bs) xs (λ qs. rest f qs))
  hands_first l ps f (the_trace bs) xs rest = trace-line l ps f bs xs (judged A parsed n w t v (record { form = f; patterns = ps; trace = bs; line = l; rest = xs })).answer

  said-first : (xs : List Item) (l : ℕ) (f : Form) (ps : List (List K)) → At l (said (l + 1) f ps) xs
  unfolding said hands finish
  said-first [] l f ps = λ e h. inl (sym (ap (λ (e : Refusal). e.line) (same_err early e h)))
  said-first (x ∷ xs) l f ps =
      one_more l (said (l + 1) f ps) (λ x xs. onward (l + 1) (bind x (take_line f)) (λ h. hands (l + 1) ps h xs))
      (λ x xs. finish_onward (l + 1) (bind x (take_line f)) (λ h. hand A (reading A parsed) n w (l + 1) ps xs (λ g qs. listed A (reading A parsed) n w ((l + 1) + 1) g qs xs) h.0 h.1)) refl x xs
      (line_then (l + 1) (λ h. hands (l + 1) ps h) (bind x (take_line f)) xs (λ h. hands_first (l + 1) ps h.0 h.1 xs (λ g qs. said-first xs (l + 1) g qs)))

  -- the body of a file, with its text
  module _ (printed : ℕ → ℕ) where
    told_err : (r : Result Counts Refusal) (u : List K) (e : Refusal) → told A printed r u ≡ Err e → r ≡ Err e
    told_err (Ok c) u e h = absurd (let z : ◌≡◌ {A = ℕ} 0 1 = cc in omega arith)
    told_err (Err f) u e h = let same = same_err f e h in ap Err same

    body-first : (l : ℕ) (xs : List Item) → At l (λ xs. told A printed (body A parsed n w t v (l + 1) xs).answer (body A parsed n w t v (l + 1) xs).table) xs
    unfolding said finish
    body-first l xs =
        alike l (said (l + 1) fresh []) (λ xs. told A printed (body A parsed n w t v (l + 1) xs).answer (body A parsed n w t v (l + 1) xs).table)
        (λ xs e h. ap (λ r. told A printed r (body A parsed n w t v (l + 1) xs).table) h) (λ xs e h. told_err (body A parsed n w t v (l + 1) xs).answer (body A parsed n w t v (l + 1) xs).table e h) xs (said-first xs l fresh [])

module _ (n w : ℕ) (a : List TwoLetter) (p : List TrendLetter) (q : List SeepageLetter) (v : List ℕ) where
  kind-first : (k : Kind) (l : ℕ) (xs : List Item) → At l (λ xs. (body_of n w a p q v k (l + 1) xs).answer) xs
  kind-first Two l xs = body-first two_alphabet two_parsed n w a v two_printed l xs
  kind-first Trend l xs = body-first trend_alphabet trend_parsed n w p v trend_printed l xs
  kind-first Seepage l xs = body-first seepage_alphabet seepage_parsed n w q v seepage_printed l xs

  -- the lines from the line l on, where the kind is not named yet
  opens : ℕ → Reads Sheeted
  opens l xs = (after_head n w a p q v (headed l xs)).answer

  head-onward : (l : ℕ) (r : Result (Option Kind) Fault) (k : Option Kind → Result (Kind × (ℕ × List Item)) Refusal) → (after_head n w a p q v (onward l r k)).answer ≡ onward l r (λ o. (after_head n w a p q v (k o)).answer)
  head-onward l (Ok o) k = refl
  head-onward l (Err f) k = refl

  kind_line : ℕ → Option Kind → Reads Sheeted
  kind_line l o xs = (after_head n w a p q v (kind_or o (l + 1) xs (headed (l + 1) xs))).answer

  kind_line-first : (l : ℕ) (o : Option Kind) (xs : List Item) → At l (opens (l + 1)) xs → At l (kind_line l o) xs
  unfolding opens kind_line
  kind_line-first l (Some k) xs rest = kind-first k l xs
  kind_line-first l None xs rest = rest

  opens-first : (xs : List Item) (l : ℕ) → At l (opens (l + 1)) xs
  unfolding opens kind_line
  opens-first [] l = λ e h. inl (sym (ap (λ (e : Refusal). e.line) (same_err early e h)))
  opens-first (x ∷ xs) l =
      one_more l (opens (l + 1)) (λ x xs. onward (l + 1) (bind x first_line) (λ o. kind_line (l + 1) o xs))
      (λ x xs. head-onward (l + 1) (bind x first_line) (λ o. kind_or o ((l + 1) + 1) xs (headed ((l + 1) + 1) xs))) refl x xs
      (line_then (l + 1) (λ o. kind_line (l + 1) o) (bind x first_line) xs (λ o. kind_line-first (l + 1) o xs (opens-first xs (l + 1))))

  -- a file that is not too long
  short_file : (bs : List ℕ) → length bs ≤ 60000 → (outcome n w a p q v bs).answer ≡ opens 1 (items bs)
  unfolding opens
  short_file bs h = ap (λ o. o.answer) (cond-false (ltb 60000 (length bs)) (unknown n w a p q v early) (after_head n w a p q v (headed 1 (items bs))) (le-ltb 60000 (length bs) h))

  first_of : (bs : List ℕ) (e : Refusal) → opens 1 (items bs) ≡ Err e → 1 ≤ e.line → First n w a p q v bs e
  first_of bs e h some =
      ⊎_elim (λ z. absurd (omega (arith, z))) (λ o. ⊎_elim (λ z. absurd (omega (arith, z.0))) (λ b.
      let all : e.line - 0 ≡ e.line = omega arith in
      record {
        within = omega (arith, b.within);
        before = λ cs short same. subst Unfaulted (sym (short_file cs short ∙ ap (opens 1) same)) (subst (λ k. Unfaulted (opens 1 (take (k - 1) (items bs)))) all b.before);
        after = λ cs short same. short_file cs short ∙ b.after (items cs) (subst (λ k. take k (items cs) ≡ take k (items bs)) (sym all) same);
      }) o) (opens-first (items bs) 0 e h)

  pub first : (bs : List ℕ) → FirstLaw n w a p q v bs
  unfolding opens
  first bs e =
      cond_both (ltb 60000 (length bs)) (unknown n w a p q v early) (after_head n w a p q v (headed 1 (items bs))) (λ o. o.answer ≡ Err e → 1 ≤ e.line → First n w a p q v bs e)
      (λ _ h some. absurd (omega (arith, ap (λ (e : Refusal). e.line) (same_err early e h)))) (λ _ h some. first_of bs e h some)
