-- The turns of the loop over a state's letters. Assumes nothing.
use Rattle.std.proofs.Common.{◌≡◌, ℕ, ◌+◌, ◌<◌, ◌≤◌, true, List, length, get_or, set, is_some, Some, None, Option, sym, refl, ap, ◌∙◌, subst, ⊎_elim, arith}
use Rattle.std.proofs.lemmas.List.{get_or-set_other}
use Rattle.std.proofs.lemmas.Bool.{cases_lt, false≢true}
use Rattle.models.specs.Automaton.{Model, Lawful}
use Rattle.joins.specs.Queue.{by, step_by, step_from, Placed, Paused, Going}
use Rattle.joins.proofs.Pushes.{going_pass, going_write, room}
use Rattle.joins.proofs.Turns.{going_paused}

pub record Expanding {K : Type 0} (pick : ℕ → Option K) (m : Model K) (head tail : ℕ) (was : List ℕ) (c end : ℕ) (seen qs ps ls : List ℕ) : Type 0 where
  pub going : Going (step_by pick m) (by was 0) m.count head end c seen (by qs) (by ps) (by ls)
  pub kept : (i : ℕ) → i < tail → by qs i ≡ by was i
  pub here : head < tail
  pub on : tail ≤ end
  pub most : end ≤ m.count

step_stays : {K : Type 0} (m : Model K) → Lawful m → (q t : ℕ) (o : Option K) → step_from m.next q o ≡ Some t → t < m.count
step_stays m lawful q t (Some x) e = lawful.stays q x t e
step_stays m lawful q t None e = let z : ◌≡◌ {A = ℕ} 0 1 = cc in absurd (omega arith)

-- a step goes by a letter
pub step_picks : {K : Type 0} (pick : ℕ → Option K) (m : Model K) (q c t : ℕ) → step_by pick m q c ≡ Some t → is_some (pick c) ≡ true
step_picks pick m q c t e =
    elim (pick c) as (λ o. step_from m.next q o ≡ Some t → is_some o ≡ true) [ Some x ↦ λ r. refl | None ↦ λ r. (let z : ◌≡◌ {A = ℕ} 0 1 = cc in absurd (omega arith)) ] e

module _ {K : Type 0} (pick : ℕ → Option K) (m : Model K) (lawful : Lawful m) (head tail : ℕ) (was : List ℕ) (c end : ℕ) (seen qs ps ls : List ℕ) (x : Expanding pick m head tail was c end seen qs ps ls) where
  -- the state at the head is the one that the letters are tried from
  at_head : (o : Option ℕ) → step_by pick m (by was head) c ≡ o → step_by pick m (by qs head) c ≡ o
  at_head o e = ap (λ s. step_by pick m s c) (x.kept head x.here) ∙ e

  expanding_to : (to : ℕ) → step_by pick m (by was head) c ≡ Some to → to < m.count
  expanding_to to e = step_stays m lawful (by was head) to (pick c) e

  pub expanding_room : (to : ℕ) → length seen ≡ m.count → step_by pick m (by was head) c ≡ Some to → get_or seen to 0 ≡ 0 → end < m.count
  expanding_room to long e free = let lt = expanding_to to e in room (step_by pick m) (by was 0) m.count head end c seen (by qs) (by ps) (by ls) x.going to free (omega arith)

  passed : ((u : ℕ) → step_by pick m (by qs head) c ≡ Some u → Placed (by qs) end u) → Expanding pick m head tail was (c + 1) end seen qs ps ls
  passed placed = record {
    going = going_pass (step_by pick m) (by was 0) m.count head end c seen (by qs) (by ps) (by ls) x.going placed;
    kept = x.kept;
    here = x.here;
    on = x.on;
    most = x.most;
  }

  -- the letter leads nowhere
  pub expanding_none : step_by pick m (by was head) c ≡ None → Expanding pick m head tail was (c + 1) end seen qs ps ls
  expanding_none e = passed (λ u r. let h = at_head None e in let z : ◌≡◌ {A = ℕ} 0 1 = cc in absurd (omega arith))

  -- it leads to a state that has its place
  pub expanding_seen : (to : ℕ) → step_by pick m (by was head) c ≡ Some to → 0 < get_or seen to 0 → Expanding pick m head tail was (c + 1) end seen qs ps ls
  expanding_seen to e marked =
      passed (λ u r. subst (Placed (by qs) end) (let h = at_head (Some to) e in let same : to ≡ u = cc in same) (x.going.marked.placed to (expanding_to to e) marked))

  -- it leads to a new state
  pub expanding_new : (to : ℕ) → length seen ≡ m.count → length qs ≡ m.count → length ps ≡ m.count → length ls ≡ m.count → step_by pick m (by was head) c ≡ Some to → get_or seen to 0 ≡ 0 → Expanding pick m head tail was (c + 1) (end + 1) (set seen to 1) (set qs end to) (set ps end head) (set ls end c)
  expanding_new to a b d h e free =
      let lt = expanding_to to e in
      let space = expanding_room to a e free in
      let on = x.on in
      record {
        going = going_write (step_by pick m) (by was 0) m.count head end c seen qs ps ls x.going a b d h to (at_head (Some to) e) free lt;
        kept = λ i h. get_or-set_other qs end i to 0 (λ z. omega arith) ∙ x.kept i h;
        here = x.here;
        on = omega arith;
        most = omega arith;
      }

  -- and numbers from size on are those of no letters
  pub expanding_end : (size : ℕ) → ((d : ℕ) → size ≤ d → pick d ≡ None) → size ≤ c → Paused (step_by pick m) (by was 0) m.count (head + 1) end seen (by qs) (by ps) (by ls)
  expanding_end size past all =
      going_paused (step_by pick m) (by was 0) m.count head end seen (by qs) (by ps) (by ls) c x.going
      (λ d u e. ⊎_elim
      (λ lt. omega arith)
      (λ ge. let h = step_picks pick m (by qs head) d u e in absurd (false≢true (ap is_some (sym (past d ge)) ∙ h)))
      (cases_lt d size))
