-- One letter more of the state at the head of the queue: a place more in the queue, or none. Assumes nothing.
use Rattle.std.proofs.Common.{◌≡◌, ℕ, zero, suc, ◌+◌, ◌<◌, ◌⊎◌, List, [], ◌∷◌, length, get_or, set, Some, sym, refl, ap, ◌∙◌, inl, inr, ⊎_elim, arith}
use Rattle.std.proofs.lemmas.List.{get_or-set_same, get_or-set_other}
use Rattle.std.proofs.lemmas.Bool.{cases_lt, cases_eq}
use Rattle.models.specs.Automaton.{Next}
use Rattle.joins.specs.Queue.{by, zeros, PairLt, Queued, Searched, Placed, Marked, Going}

-- a mark more is a zero fewer
pub zeros_set : (xs : List ℕ) (i v : ℕ) → i < length xs → get_or xs i 0 ≡ 0 → 0 < v → zeros (set xs i v) + 1 ≡ zeros xs
zeros_set [] i v h e p = omega arith
zeros_set (zero ∷ xs) zero zero h e p = omega arith
zeros_set (zero ∷ xs) zero (suc v) h e p = omega arith
zeros_set (suc x ∷ xs) zero v h e p = omega arith
zeros_set (zero ∷ xs) (suc i) v h e p = let r = zeros_set xs i v (omega arith) e p in omega arith
zeros_set (suc x ∷ xs) (suc i) v h e p = zeros_set xs i v (omega arith) e p

pair_more : (a b h c : ℕ) → PairLt a b h c → PairLt a b h (c + 1)
pair_more a b h c e = ⊎_elim (λ x. inl x) (λ x. let y = x.0 in let z = x.1 in inr (omega arith, omega arith)) e

pair_move : (a b a' b' c d c' d' : ℕ) → a ≡ a' → b ≡ b' → c ≡ c' → d ≡ d' → PairLt a' b' c' d' → PairLt a b c d
pair_move a b a' b' c d c' d' p q r s e = ⊎_elim (λ x. inl (omega arith)) (λ x. let y = x.0 in let z = x.1 in inr (omega arith, omega arith)) e

module _ (f : Next ℕ) (start n head tail c : ℕ) (seen : List ℕ) (q p l : ℕ → ℕ) (g : Going f start n head tail c seen q p l) where
  -- the letter c leads nowhere, or to a state that has its place
  pub going_pass : ((u : ℕ) → f (q head) c ≡ Some u → Placed q tail u) → Going f start n head tail (c + 1) seen q p l
  going_pass w = record {
    searched = g.searched;
    tried = λ d u h e. ⊎_elim
        (λ lt. g.tried d u lt e)
        (λ ge.
        let z : d ≡ c = omega arith in
        let v = w u (ap (λ k. f (q head) k) (sym z) ∙ e) in
        record {
          at = v.at;
          within = v.within;
          state = v.state;
          early = ⊎_elim
              (λ pos. inr (inl (pair_move _ _ _ _ _ _ _ _ refl refl refl z (g.latest v.at pos v.within))))
              (λ none. inl (omega arith))
              (cases_lt 0 v.at);
        })
        (cases_lt d c);
    latest = λ i pos t. pair_more (p i) (l i) head c (g.latest i pos t);
    marked = g.marked;
    here = g.here;
  }

  -- a state without a mark leaves room for a place
  pub room : (to : ℕ) → get_or seen to 0 ≡ 0 → to < length seen → tail < n
  room to free h = let z = zeros_set seen to 1 h free (omega arith) in let k = g.marked.count in omega arith

  module _ (to : ℕ) (q' p' l' : ℕ → ℕ) (goes : f (q head) c ≡ Some to) (free : get_or seen to 0 ≡ 0) (within : to < length seen) (in-n : to < n)
      (same-q : (i : ℕ) → i < tail → q' i ≡ q i) (same-p : (i : ℕ) → i < tail → p' i ≡ p i) (same-l : (i : ℕ) → i < tail → l' i ≡ l i)
      (new-q : q' tail ≡ to) (new-p : p' tail ≡ head) (new-l : l' tail ≡ c) where
    keep : (u i d : ℕ) → Queued q p l tail u i d → Queued q' p' l' (tail + 1) u i d
    keep u i d k =
        let t = k.within in
        let ep = same-p k.at t in
        let el = same-l k.at t in
        record {
          at = k.at;
          within = omega arith;
          state = same-q k.at t ∙ k.state;
          early = ⊎_elim inl (λ e. inr (⊎_elim (λ x. inl (pair_move _ _ _ _ _ _ _ _ ep el refl refl x)) (λ x. inr (ep ∙ x.0, el ∙ x.1)) e)) k.early;
        }

    last_or : (i : ℕ) → i < tail + 1 → (i < tail) ⊎ (i ≡ tail)
    last_or i h = ⊎_elim inl (λ ge. inr (omega arith)) (cases_lt i tail)

    searched_push : Searched f start head (tail + 1) q' p' l'
    searched_push =
        let o = g.searched in
        let hh = g.here in
        record {
          some = omega arith;
          done = omega arith;
          first = same-q 0 o.some ∙ o.first;
          parent = λ i pos t. ⊎_elim
              (λ lt. let a = o.parent i pos lt in let b = same-p i lt in omega arith)
              (λ e. let b = ap p' e ∙ new-p in omega arith)
              (last_or i t);
          goes = λ i pos t. ⊎_elim
              (λ lt.
              let a = o.parent i pos lt in
              ap (λ x. f (q' x) (l' i)) (same-p i lt) ∙ ap (λ x. f x (l' i)) (same-q (p i) (omega arith)) ∙ ap (λ x. f (q (p i)) x) (same-l i lt) ∙ o.goes i pos lt ∙ ap Some (sym (same-q i lt)))
              (λ e. ap (λ x. f (q' x) (l' i)) (ap p' e ∙ new-p) ∙ ap (λ x. f x (l' i)) (same-q head hh) ∙ ap (λ x. f (q head) x) (ap l' e ∙ new-l) ∙ goes ∙ ap Some (sym (ap q' e ∙ new-q)))
              (last_or i t);
          order = λ i j pos h t. ⊎_elim
              (λ lt. pair_move _ _ _ _ _ _ _ _ (same-p i (omega arith)) (same-l i (omega arith)) (same-p j lt) (same-l j lt) (o.order i j pos h lt))
              (λ e. pair_move _ _ _ _ _ _ _ _ (same-p i (omega arith)) (same-l i (omega arith)) (ap p' e ∙ new-p) (ap l' e ∙ new-l) (g.latest i pos (omega arith)))
              (last_or j t);
          closed = λ i d u h e. keep u i d (o.closed i d u h (ap (λ x. f x d) (sym (same-q i (omega arith))) ∙ e));
        }

    marked_push : Marked n (tail + 1) (set seen to 1) q'
    marked_push =
        let z = zeros_set seen to 1 within free (omega arith) in
        let k = g.marked.count in
        record {
          placed = λ s h m. ⊎_elim
              (λ e. record { at = tail; within = omega arith; state = new-q ∙ sym e })
              (λ ne. let r = get_or-set_other seen to s 1 0 ne in let v = g.marked.placed s h (omega arith) in let t = v.within in record { at = v.at; within = omega arith; state = same-q v.at v.within ∙ v.state })
              (cases_eq s to);
          states = λ i t. ⊎_elim (λ lt. let a = g.marked.states i lt in let b = same-q i lt in omega arith) (λ e. let b = ap q' e ∙ new-q in omega arith) (last_or i t);
          count = omega arith;
        }

    going_push : Going f start n head (tail + 1) (c + 1) (set seen to 1) q' p' l'
    going_push =
        let hh = g.here in
        record {
          searched = searched_push;
          tried = λ d u h e. ⊎_elim
              (λ lt. keep u head d (g.tried d u lt (ap (λ x. f x d) (sym (same-q head hh)) ∙ e)))
              (λ ge.
              let same : d ≡ c = omega arith in
              let there : f (q head) c ≡ Some u = ap (λ x. f (q head) x) (sym same) ∙ ap (λ x. f x d) (sym (same-q head hh)) ∙ e in
              record { at = tail; within = omega arith; state = new-q ∙ (let s : to ≡ u = cc in s); early = inr (inr (new-p, new-l ∙ sym same)) })
              (cases_lt d c);
          latest = λ i pos t. ⊎_elim
              (λ lt. pair_more _ _ _ _ (pair_move _ _ _ _ _ _ _ _ (same-p i lt) (same-l i lt) refl refl (g.latest i pos lt)))
              (λ e. let a = ap p' e ∙ new-p in let b = ap l' e ∙ new-l in inr (omega arith, omega arith))
              (last_or i t);
          marked = marked_push;
          here = omega arith;
        }

-- the letter c leads to a state that has no place yet: the four tables get an entry each
pub going_write : (f : Next ℕ) (start n head tail c : ℕ) (seen qs ps ls : List ℕ) → Going f start n head tail c seen (by qs) (by ps) (by ls) → length seen ≡ n → length qs ≡ n → length ps ≡ n → length ls ≡ n → (to : ℕ) → f (by qs head) c ≡ Some to → get_or seen to 0 ≡ 0 → to < n → Going f start n head (tail + 1) (c + 1) (set seen to 1) (by (set qs tail to)) (by (set ps tail head)) (by (set ls tail c))
going_write f start n head tail c seen qs ps ls g a b d m to e free in-n =
    let t = room f start n head tail c seen (by qs) (by ps) (by ls) g to free (omega arith) in
    going_push f start n head tail c seen (by qs) (by ps) (by ls) g to _ _ _ e free (omega arith) in-n
    (λ i t. get_or-set_other qs tail i to 0 (λ x. omega arith))
    (λ i t. get_or-set_other ps tail i head 0 (λ x. omega arith))
    (λ i t. get_or-set_other ls tail i c 0 (λ x. omega arith))
    (get_or-set_same qs tail to 0 (omega arith))
    (get_or-set_same ps tail head 0 (omega arith))
    (get_or-set_same ls tail c 0 (omega arith))
