-- What a sheet and its text table hold, told by the letters and gaps taken, as one more call is made. Assumes nothing.
--
--   Holds t0 es n f s t   after the letters and gaps es, with n letters appended and f filled in: the sheet s, and the table t,
--                         which first held t0
use Rattle.std.proofs.Common.{◌≡◌, ℕ, ◌+◌, ◌-◌, ◌<◌, ◌≤◌, Bool, true, false, cond, not, List, [], ◌∷◌, ◌++◌, length, take, drop, Some, filter, sym, ap, ◌∙◌, subst, append_assoc, append-nil, arith, length-append, length-drop, length-take}
use Rattle.std.proofs.lemmas.List.Elements.{filter-append}
use Rattle.std.proofs.lemmas.List.{drop-append-le, drop-drop, length_push, length-take-le, take_at, drop_at, drop_all}
use Rattle.models.specs.Automaton.{Model, last}
use Rattle.sheetlaw.specs.Calls.{letters, since, windows, passes, kept, skipped}
use Rattle.sheetlaw.specs.Step.{Contents, wait, skip, keep, window, count, carry, pause, write}
use Rattle.sheetlaw.specs.declared.Event.{Event}
use Rattle.sheetlaw.specs.declared.Event.TheVariants.{Letter, Gap}
use Rattle.sheetlaw.specs.declared.Counts.{Counts}
use Rattle.sheetlaw.proofs.Texts.{Built}
use Rattle.sheetlaw.proofs.Windows.{ending, ending-none, ending_one, since-letter, since-gap, letters-append, windows-letter, windows-gap}

-- the last k of the last k letters with one more
pub last-last : {K : Type 0} (k : ℕ) (l : List K) (x : K) → 1 ≤ k → last k (last k l ++ x ∷ []) ≡ last k (l ++ x ∷ [])
last-last k l x o =
    let d = length l - k in
    let fits : d ≤ length l = omega arith in
    let e : drop d l ++ x ∷ [] ≡ drop d (l ++ x ∷ []) = sym (drop-append-le d l (x ∷ []) fits) in
    let n : length (last k l) ≡ length l - d = length-drop d l in
    let s : d + (length (last k l ++ x ∷ []) - k) ≡ length (l ++ x ∷ []) - k = simp length_push (omega arith) in
    ap (λ t. drop (length (last k l ++ x ∷ []) - k) t) e ∙ drop-drop (length (last k l ++ x ∷ []) - k) d (l ++ x ∷ []) ∙ ap (λ j. drop j (l ++ x ∷ [])) s

abbrev counts_of : ℕ → ℕ → ℕ → ℕ → ℕ → Counts
counts_of a b c d e = record { letters = a; kept = b; skipped = c; text = d; filled = e }

same-counts : (a b c d e a' b' c' : ℕ) → a ≡ a' → b ≡ b' → c ≡ c' → counts_of a b c d e ≡ counts_of a' b' c' d e
same-counts a b c d e a' b' c' p q r = ap (λ i. counts_of i b c d e) p ∙ ap (λ i. counts_of a' i c d e) q ∙ ap (λ i. counts_of a' b' i d e) r

-- the front of a table with the letters r from the place n on
pub take-write : {K : Type 0} (n : ℕ) (r t : List K) → n + length r ≤ length t → take (n + length r) (write n r t) ≡ take n t ++ r
take-write n r t h =
    let l : length (take n t) ≡ n = length-take-le n t (omega arith) in
    let e : length (take n t ++ r) ≡ n + length r = length-append (take n t) r ∙ ap (λ i. i + length r) l in
    ap (take (n + length r)) (sym (append_assoc (take n t) r (drop (n + length r) t))) ∙ take_at (take n t ++ r) (drop (n + length r) t) (n + length r) e

pub length-write : {K : Type 0} (n : ℕ) (r t : List K) → n + length r ≤ length t → length (write n r t) ≡ length t
length-write n r t h = simp (length-append, length-take, length-drop) (omega arith)

-- past them it is as it was
pub drop-write : {K : Type 0} (n : ℕ) (r t : List K) → n + length r ≤ length t → drop (n + length r) (write n r t) ≡ drop (n + length r) t
drop-write n r t h =
    let l : length (take n t) ≡ n = length-take-le n t (omega arith) in
    let e : length (take n t ++ r) ≡ n + length r = length-append (take n t) r ∙ ap (λ i. i + length r) l in
    ap (drop (n + length r)) (sym (append_assoc (take n t) r (drop (n + length r) t))) ∙ drop_at (take n t ++ r) (drop (n + length r) t) (n + length r) e

module _ {K : Type 0} (m : Model K) (k : ℕ) (t0 : List K) where
  pub record Holds (es : List (Event K)) (n f : ℕ) (s : Contents K) (t : List K) : Type 0 where
    pub running : s.running ≡ last k (since es)
    pub built : Built m k s.latest (kept m k es) (take n t)
    pub taken : s.taken ≡ length es
    pub counts : s.counts ≡ record { letters = length (letters es); kept = length (kept m k es); skipped = length (skipped m k es); text = n; filled = f }
    pub fits : n ≤ length t
    pub size : length t ≡ length t0
    pub rest : drop n t ≡ drop n t0

  module _ (o : 1 ≤ k) (es : List (Event K)) (n f : ℕ) (s : Contents K) (t : List K) (holds : Holds es n f s t) where
    -- a gap
    pub holds_gap : Holds (es ++ Gap ∷ []) n f (pause s) t
    holds_gap =
        let same = windows-gap k o es in
        let ls : letters (es ++ Gap ∷ []) ≡ letters es = letters-append es (Gap ∷ []) ∙ append-nil (letters es) in
        record {
          running = sym (drop_all (0 - k) [] (omega arith)) ∙ ap (last k) (sym (since-gap [] es));
          built = rw same holds.built;
          taken = ap (λ i. i + 1) holds.taken ∙ sym (length_push es Gap);
          counts = rw (same, ls) holds.counts;
          fits = holds.fits;
          size = holds.size;
          rest = holds.rest;
        }

    module _ (x : K) where
      -- the letters that run with x
      abbrev runs : List K
      runs = since es ++ x ∷ []

      pub window_is : window k s x ≡ last k runs
      window_is = ap (λ l. last k (l ++ x ∷ [])) holds.running ∙ last-last k (since es) x o

      pub window-size : length (window k s x) ≡ length runs - (length runs - k)
      window-size = ap length window_is ∙ length-drop (length runs - k) runs

      ls : length (letters (es ++ Letter x ∷ [])) ≡ length (letters es) + 1
      ls = ap length (letters-append es (Letter x ∷ [])) ∙ length_push (letters es) x

      more : (b : List K → Bool) → filter b (windows k (es ++ Letter x ∷ [])) ≡ filter b (windows k es) ++ filter b (ending k runs)
      more b = ap (filter b) (windows-letter k o es x) ∙ filter-append b (windows k es) (ending k runs)

      -- no window
      more-none : (b : List K → Bool) → ending k runs ≡ [] → filter b (windows k (es ++ Letter x ∷ [])) ≡ filter b (windows k es)
      more-none b e = more b ∙ ap (λ r. filter b (windows k es) ++ filter b r) e ∙ append-nil (filter b (windows k es))

      ends : k ≤ length (window k s x) → ending k runs ≡ window k s x ∷ []
      ends l = ending_one k runs (let z = window-size in omega arith) ∙ ap (λ v. v ∷ []) (sym window_is)

      -- one that b takes, or leaves
      more_one : (b : List K → Bool) (c : Bool) → k ≤ length (window k s x) → b (window k s x) ≡ c → filter b (windows k (es ++ Letter x ∷ [])) ≡ filter b (windows k es) ++ cond c (window k s x ∷ []) []
      more_one b c l e = more b ∙ ap (λ r. filter b (windows k es) ++ filter b r) (ends l) ∙ ap (λ d. filter b (windows k es) ++ cond d (window k s x ∷ []) []) e

      now_runs : window k s x ≡ last k (since (es ++ Letter x ∷ []))
      now_runs = window_is ∙ ap (last k) (sym (since-letter [] es x))

      now_taken : s.taken + 1 ≡ length (es ++ Letter x ∷ [])
      now_taken = ap (λ i. i + 1) holds.taken ∙ sym (length_push es (Letter x))

      pub holds_wait : length (window k s x) < k → Holds (es ++ Letter x ∷ []) n f (carry k s x wait) t
      holds_wait l =
          let none : ending k runs ≡ [] = ending-none k runs (let z = window-size in omega arith) in
          record {
            running = now_runs;
            built = subst (λ ws. Built m k s.latest ws (take n t)) (sym (more-none (passes m) none)) holds.built;
            taken = now_taken;
            counts = ap (λ c. count {K = K} k c wait) holds.counts ∙ same-counts _ _ _ n f _ _ _ (sym ls) (ap length (sym (more-none (passes m) none))) (ap length (sym (more-none (λ w. not (passes m w)) none)));
            fits = holds.fits;
            size = holds.size;
            rest = holds.rest;
          }

      pub holds_skip : k ≤ length (window k s x) → passes m (window k s x) ≡ false → Holds (es ++ Letter x ∷ []) n f (carry k s x skip) t
      holds_skip l p =
          let same : kept m k (es ++ Letter x ∷ []) ≡ kept m k es = more_one (passes m) false l p ∙ append-nil (kept m k es) in
          let new : skipped m k (es ++ Letter x ∷ []) ≡ skipped m k es ++ window k s x ∷ [] = more_one (λ w. not (passes m w)) true l (ap not p) in
          record {
            running = now_runs;
            built = subst (λ ws. Built m k s.latest ws (take n t)) (sym same) holds.built;
            taken = now_taken;
            counts = ap (λ c. count {K = K} k c skip) holds.counts ∙ same-counts _ _ _ n f _ _ _ (sym ls) (ap length (sym same)) (sym (length_push (skipped m k es) (window k s x)) ∙ ap length (sym new));
            fits = holds.fits;
            size = holds.size;
            rest = holds.rest;
          }

      pub holds_keep : (r : List K) → k ≤ length (window k s x) → passes m (window k s x) ≡ true → Built m k (Some (window k s x)) (kept m k es ++ window k s x ∷ []) (take n t ++ r) → n + length r ≤ length t
          → Holds (es ++ Letter x ∷ []) (n + length r) (f + (length r - k)) (carry k s x (keep (window k s x) r)) (write n r t)
      holds_keep r l p b fits =
          let new : kept m k (es ++ Letter x ∷ []) ≡ kept m k es ++ window k s x ∷ [] = more_one (passes m) true l p in
          let same : skipped m k (es ++ Letter x ∷ []) ≡ skipped m k es = more_one (λ w. not (passes m w)) false l (ap not p) ∙ append-nil (skipped m k es) in
          record {
            running = now_runs;
            built = subst (λ ws. Built m k (Some (window k s x)) ws (take (n + length r) (write n r t))) (sym new) (subst (λ u. Built m k (Some (window k s x)) (kept m k es ++ window k s x ∷ []) u) (sym (take-write n r t fits)) b);
            taken = now_taken;
            counts = ap (λ c. count {K = K} k c (keep (window k s x) r)) holds.counts ∙ same-counts _ _ _ (n + length r) (f + (length r - k)) _ _ _ (sym ls) (sym (length_push (kept m k es) (window k s x)) ∙ ap length (sym new)) (ap length (sym same));
            fits = rw (length-write n r t fits) fits;
            size = length-write n r t fits ∙ holds.size;
            rest = drop-write n r t fits ∙ sym (drop-drop (length r) n t) ∙ ap (drop (length r)) holds.rest ∙ drop-drop (length r) n t0;
          }
