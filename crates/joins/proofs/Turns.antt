-- The start of the search, and its turns from state to state. Assumes nothing.
use Rattle.std.proofs.Common.{◌≡◌, ℕ, zero, suc, ◌+◌, ◌<◌, List, length, get_or, set, replicate, Some, sym, refl, ap, ◌∙◌, inl, inr, ⊎_elim, arith}
use Rattle.std.proofs.lemmas.List.{get_or-set_same, get_or-set_other, get_or-replicate, length-replicate}
use Rattle.std.proofs.lemmas.Bool.{cases_lt, cases_eq}
use Rattle.models.specs.Automaton.{Next}
use Rattle.joins.specs.Queue.{by, zeros, Paused, Going}
use Rattle.joins.proofs.Pushes.{zeros_set}

zeros-replicate : (n : ℕ) → zeros (replicate n 0) ≡ n
zeros-replicate zero = refl
zeros-replicate (suc n) = ap suc (zeros-replicate n)

-- one state marked and queued
pub paused_start : (f : Next ℕ) (start n : ℕ) (qs : List ℕ) (p l : ℕ → ℕ) → start < n → length qs ≡ n → Paused f start n 0 1 (set (replicate n 0) start 1) (by (set qs 0 start)) p l
paused_start f start n qs p l h k =
    let first = get_or-set_same qs 0 start 0 (omega arith) in
    let long : length (replicate {A = ℕ} n 0) ≡ n = length-replicate n 0 in
    let z = zeros_set (replicate n 0) start 1 (omega arith) (get_or-replicate n start 0 0 h) (omega arith) in
    let y = zeros-replicate n in
    record {
      searched = record {
        some = omega arith;
        done = omega arith;
        first = first;
        parent = λ i pos t. omega arith;
        goes = λ i pos t. absurd (omega arith);
        order = λ i j pos u t. absurd (omega arith);
        closed = λ i c u t e. absurd (omega arith);
      };
      latest = λ i pos t. omega arith;
      marked = record {
        placed = λ s t m. ⊎_elim
            (λ e. record { at = 0; within = omega arith; state = first ∙ sym e })
            (λ ne.
            let a : get_or (set (replicate {A = ℕ} n 0) start 1) s 0 ≡ get_or (replicate {A = ℕ} n 0) s 0 = get_or-set_other (replicate n 0) start s 1 0 ne in
            let b : get_or (replicate {A = ℕ} n 0) s 0 ≡ 0 = get_or-replicate n s 0 0 t in
            absurd (omega arith))
            (cases_eq s start);
        states = λ i t. let e : by (set qs 0 start) i ≡ start = ap (by (set qs 0 start)) (let w : i ≡ 0 = omega arith in w) ∙ first in omega arith;
        count = omega arith;
      };
    }

module _ (f : Next ℕ) (start n head tail : ℕ) (seen : List ℕ) (q p l : ℕ → ℕ) where
  -- all letters of a state are done
  pub going_paused : (c : ℕ) → Going f start n head tail c seen q p l → ((d u : ℕ) → f (q head) d ≡ Some u → d < c) → Paused f start n (head + 1) tail seen q p l
  going_paused c g all =
      let o = g.searched in
      let h = g.here in
      record {
        searched = record {
          some = o.some;
          done = omega arith;
          first = o.first;
          parent = o.parent;
          goes = o.goes;
          order = o.order;
          closed = λ i d u t e. ⊎_elim
              (λ lt. o.closed i d u lt e)
              (λ ge.
              let z : i ≡ head = omega arith in
              let e' = ap (λ x. f (q x) d) (sym z) ∙ e in
              let k = g.tried d u (all d u e') e' in
              record {
                at = k.at;
                within = k.within;
                state = k.state;
                early = ⊎_elim inl (λ x. inr (⊎_elim (λ y. inl (⊎_elim (λ w. inl (omega arith)) (λ w. inr (w.0 ∙ sym z, w.1)) y)) (λ y. inr (y.0 ∙ sym z, y.1)) x)) k.early;
              })
              (cases_lt i head);
        };
        latest = λ i pos t. ⊎_elim (λ x. omega arith) (λ x. let y = x.0 in omega arith) (g.latest i pos t);
        marked = g.marked;
      }
