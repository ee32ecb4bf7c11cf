-- The law of a sheet holds. Assumes nothing.
use Rattle.std.proofs.Common.{◌≡◌, ℕ, ◌+◌, ◌-◌, ◌<◌, ◌≤◌, true, false, List, [], ◌∷◌, ◌++◌, length, take, Some, None, Ok, Err, Option, Result, sym, refl, ap, ◌∙◌, subst, inl, inr, append-nil, arith, length-append}
use Rattle.faults.specs.Causes.{number_of}
use Rattle.std.proofs.lemmas.List.{drop_all, length-take-le}
use Rattle.faults.specs.declared.Fault.{Fault}
use Rattle.models.specs.Automaton.{Model, Lawful, Pass}
use Rattle.models.specs.Strings.{Least}
use Rattle.sheetlaw.specs.Rivals.{Rival}
use Rattle.joinlaw.specs.Laws.{Continues}
use Rattle.sheetlaw.specs.Rows.{Rows}
use Rattle.sheetlaw.specs.Calls.{Turn, letter, gap, adds, taken, appended, filled, kept}
use Rattle.sheetlaw.specs.Step.{Contents, Outcome, wait, skip, keep, opening, opened, window, needs, row_to, decide, pauses, said, if_taken, carry, append, pause, write, answers, writes}
use Rattle.sheetlaw.specs.Runs.{after, Exact}
use Rattle.sheetlaw.specs.Law.{Latest, Refusals, Followed, SheetLaw}
use Rattle.sheetlaw.specs.declared.Event.{Event}
use Rattle.sheetlaw.specs.declared.Event.TheVariants.{Letter}
use Rattle.sheetlaw.specs.declared.Answer.TheVariants.{Kept}
use Rattle.sheetlaw.proofs.Openings.{Fits, opening_fits}
use Rattle.sheetlaw.proofs.Texts.{Built, built_more, shortest, row_least, no_rival, row-shortest}
use Rattle.sheetlaw.proofs.Decisions.{Row, Decided, decided}
use Rattle.sheetlaw.proofs.Sheets.{Holds, holds_gap, window_is, window-size, holds_wait, holds_skip, holds_keep, take-write}

module _ {K : Type 0} (m : Model K) (number : K → ℕ) (k : ℕ) (row : List K → List K → Option (List K)) (laws : Lawful m) (opens : opening m k ≡ Ok opened) (rows : Rows m number k row) (t0 : List K) where
  fits : Fits m k
  fits = opening_fits m k opens

  one : 1 ≤ k
  one = omega (arith, fits.some)

  module _ (es : List (Event K)) (n f : ℕ) (s : Contents K) (t : List K) (holds : Holds m k t0 es n f s t) where
    texts : s.counts.text ≡ n
    texts = ap (λ c. c.text) holds.counts

    holds_paused : (o : Result (Unit {0}) Fault) → let c : Turn K = gap o in Holds m k t0 (es ++ (adds c).events) (n + (adds c).appended) (f + (adds c).filled) (if_taken o (λ _. pause s) s) t
    holds_paused (Ok u) =
        let a : n + 0 ≡ n = omega arith in
        let b : f + 0 ≡ f = omega arith in
        rw (a, b) (holds_gap m k t0 one es n f s t holds)
    holds_paused (Err e) =
        let a : n + 0 ≡ n = omega arith in
        let b : f + 0 ≡ f = omega arith in
        let c : es ++ [] ≡ es = append-nil es in
        rw (a, b, c) holds

    module _ (x : K) (work : List ℕ) where
      -- k letters, where there are so many
      exactly : k ≤ length (window k s x) → length (window k s x) ≡ k
      exactly l = let z = window-size m k t0 one es n f s t holds x in omega arith

      holds_decided : (o : Result (Outcome K) Fault) (left : List ℕ) → Decided m k row (length work) (length t) s x o
          → Holds m k t0 (es ++ (adds (letter x work (said k o) left)).events) (n + (adds (letter x work (said k o) left)).appended) (f + (adds (letter x work (said k o) left)).filled)
          (if_taken o (carry k s x) s) (if_taken o (append s t) t)
      holds_decided (Ok wait) left d =
          let a : n + 0 ≡ n = omega arith in
          let b : f + 0 ≡ f = omega arith in
          rw (a, b) (holds_wait m k t0 one es n f s t holds x d.1)
      holds_decided (Ok skip) left d =
          let a : n + 0 ≡ n = omega arith in
          let b : f + 0 ≡ f = omega arith in
          rw (a, b) (holds_skip m k t0 one es n f s t holds x d.1 d.2)
      holds_decided (Ok (keep w r)) left (free, whole, here, same, room) =
          let l = exactly whole.0 in
          let least = row_least m laws k fits.some fits.recalls number row rows s.latest (kept m k es) (take n t) (window k s x) r holds.built l whole.1 here in
          let more = built_more m laws k fits.some fits.recalls number s.latest (kept m k es) (take n t) (window k s x) r holds.built l whole.1 least in
          let inside : n + length r ≤ length t = subst (λ i. i + length r ≤ length t) texts room in
          let kept-now = holds_keep m k t0 one es n f s t holds x r whole.0 whole.1 more inside in
          rw same (subst (λ i. Holds m k t0 (es ++ Letter x ∷ []) (n + length r) (f + (length r - k)) (carry k s x (keep (window k s x) r)) (write i r t)) (sym texts) kept-now)
      holds_decided (Err e) left d =
          let a : n + 0 ≡ n = omega arith in
          let b : f + 0 ≡ f = omega arith in
          let c : es ++ [] ≡ es = append-nil es in
          rw (a, b, c) holds

      -- the text with a row
      long : (r : List K) → length (take n t ++ r) ≡ s.counts.text + length r
      long r = length-append (take n t) r ∙ ap (λ i. i + length r) (length-take-le n t holds.fits ∙ sym texts)

      module _ (l : k ≤ length (window k s x)) (p : Pass m (window k s x)) where
        best : (r : List K) → Row m k row (length work) (length t) s x r
            → Rival m (kept m k es ++ window k s x ∷ []) (take n t ++ r) × ((o : List K) → Rival m (kept m k es ++ window k s x ∷ []) o → length (take n t ++ r) ≤ length o)
        best r here = row-shortest m laws k fits.some fits.recalls number row rows s.latest (kept m k es) (take n t) (window k s x) r holds.built (exactly l) p here

        none : row_to row s.latest (window k s x) ≡ None → (o : List K) → Rival m (kept m k es ++ window k s x ∷ []) o → ⊥
        none e = no_rival m laws k fits.some fits.recalls number row rows s.latest (kept m k es) (take n t) (window k s x) holds.built (exactly l) p e

        refusals : needs m ≤ length work → s.taken < 50000
            → (o : Result (Outcome K) Fault) → Decided m k row (length work) (length t) s x o → Refusals m (kept m k es) (window k s x) (length t) (said k o)
        refusals b g (Ok wait) d = absurd (omega (arith, d.1))
        refusals b g (Ok skip) d = absurd (let z : true ≡ false = sym p ∙ d.2 in let y : ◌≡◌ {A = ℕ} 0 1 = cc in omega arith)
        refusals b g (Ok (keep v r)) (free, whole, here, same, room) = record {
          unjoinable = (λ e. absurd e, λ never. absurd (never (take n t ++ r) (best r here).0));
          too_long = (λ e. absurd e, λ c. absurd (omega (arith, c.1 (take n t ++ r) (best r here).0, long r)));
        }
        refusals b g (Err q) (inl d) = absurd (omega (arith, d.0))
        refusals b g (Err q) (inr (inl d)) = absurd (omega (arith, d.1))
        refusals b g (Err q) (inr (inr (inl (free, whole, stuck, e)))) = record {
          unjoinable = (λ _. none stuck, λ _. ap number_of e);
          too_long = (λ z. absurd (omega (arith, ap number_of e)), λ c. absurd (none stuck c.0.0 c.0.1));
        }
        refusals b g (Err q) (inr (inr (inr (r, free, whole, here, over, e)))) = record {
          unjoinable = (λ z. absurd (omega (arith, ap number_of e)), λ never. absurd (never (take n t ++ r) (best r here).0));
          too_long = (λ _. ((take n t ++ r, (best r here).0), λ o c. omega (arith, (best r here).1 o c, long r)), λ _. ap number_of e);
        }

      -- what a kept letter appends
      grown : (o : Result (Outcome K) Fault) → Decided m k row (length work) (length t) s x o → (a b : ℕ) → said k o ≡ Ok (Kept a b)
          → (r : List K) × Least number (Continues m (take n t) (window k s x)) r × (a ≡ length r) × (b ≡ a - k) × (take (n + a) (if_taken o (append s t) t) ≡ take n t ++ r)
      grown (Ok wait) d a b e = absurd (let z : ◌≡◌ {A = ℕ} 0 1 = cc in omega arith)
      grown (Ok skip) d a b e = absurd (let z : ◌≡◌ {A = ℕ} 0 1 = cc in omega arith)
      grown (Ok (keep v r)) (free, whole, here, same, room) a b e =
          let p : a ≡ length r = cc in
          let q : b ≡ length r - k = cc in
          let inside : n + length r ≤ length t = subst (λ i. i + length r ≤ length t) texts room in (
            r,
            row_least m laws k fits.some fits.recalls number row rows s.latest (kept m k es) (take n t) (window k s x) r holds.built (exactly whole.0) whole.1 here,
            p,
            q ∙ ap (λ i. i - k) (sym p),
            ap (λ i. take (n + i) (write s.counts.text r t)) p ∙ ap (λ i. take (n + length r) (write i r t)) texts ∙ take-write n r t inside,
          )
      grown (Err q) d a b e = absurd (let z : ◌≡◌ {A = ℕ} 0 1 = cc in omega arith)

  holds_after : (h : List (Turn K)) → Exact m k row t0 h → Holds m k t0 (taken h) (appended h) (filled h) (after m k row t0 h).0 (after m k row t0 h).1
  holds_after [] e = record {
    running = sym (drop_all (0 - k) [] (omega arith));
    built = (refl, refl);
    taken = refl;
    counts = refl;
    fits = omega arith;
    size = refl;
    rest = refl;
  }
  holds_after (letter x work r left ∷ h) (e, a, _) =
      let u = after m k row t0 h in
      let o = decide m k row (length work) (length u.1) u.0 x in
      let d = holds_decided (taken h) (appended h) (filled h) u.0 u.1 (holds_after h e) x work o left (decided m k row (length work) (length u.1) u.0 x) in
      rw a d
  holds_after (gap r ∷ h) (e, a) =
      let u = after m k row t0 h in
      rw a (holds_paused (taken h) (appended h) (filled h) u.0 u.1 (holds_after h e) (pauses u.0))

  latest : (o : Option (List K)) (ws : List (List K)) (t : List K) → Built m k o ws t → Latest ws o
  latest None ws t b = b.0
  latest (Some w) ws t b = (b.0, b.1)

  pub followed : (h : List (Turn K)) → Exact m k row t0 h → Followed m number k row t0 h (after m k row t0 h).0 (after m k row t0 h).1
  followed h e =
      let s = (after m k row t0 h).0 in
      let t = (after m k row t0 h).1 in
      let es = taken h in
      let n = appended h in
      let f = filled h in
      let holds : Holds m k t0 es n f s t = holds_after h e in
      record {
        opens = opens;
        exact = e;
        sheet = refl;
        table = refl;
        running = holds.running;
        latest = latest s.latest (kept m k es) (take n t) holds.built;
        count = holds.taken;
        size = holds.size;
        within = holds.fits;
        rest = holds.rest;
        shortest = shortest m laws k fits.some fits.recalls s.latest (kept m k es) (take n t) holds.built;
        next = λ x work w i p b g.
            let same : window k s x ≡ w = window_is m k t0 one es n f s t holds x ∙ sym i.1 in
            let l : k ≤ length (window k s x) = (let z = window-size m k t0 one es n f s t holds x in omega (arith, i.0)) in
            let early : s.taken < 50000 = omega (arith, holds.taken) in
            subst (λ v. Refusals m (kept m k es) v (length t) (answers m k row (length work) (length t) s x)) same
            (refusals es n f s t holds x work l (subst (Pass m) (sym same) p) b early (decide m k row (length work) (length t) s x) (decided m k row (length work) (length t) s x));
        grows = λ x work a b q.
            subst (λ v. (r : List K) × Least number (Continues m (take n t) v) r × (a ≡ length r) × (b ≡ a - k) × (take (n + a) (writes m k row (length work) s x t) ≡ take n t ++ r))
            (window_is m k t0 one es n f s t holds x)
            (grown es n f s t holds x work (decide m k row (length work) (length t) s x) (decided m k row (length work) (length t) s x) a b q);
        closed = holds.counts;
      }

pub sheet-law : {K : Type 0} (m : Model K) (number : K → ℕ) (k : ℕ) (row : List K → List K → Option (List K)) (t0 : List K) → SheetLaw m number k row t0
sheet-law m number k row t0 laws opens rows = followed m number k row laws opens rows t0
