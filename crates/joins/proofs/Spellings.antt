-- What the queue spells is the filling. Assumes nothing.
use Rattle.std.proofs.Common.{◌≡◌, ℕ, ◌<◌, List, [], ◌∷◌, ◌++◌, map, is_some, Some, None, Option, sym, refl, ap, ◌∙◌, subst, ⊎_elim, arith}
use mathlib.Core.List.{Memᴰ}
use Rattle.std.proofs.lemmas.Bool.{cases_lt}
use Rattle.models.specs.Alphabet.{Alphabet, Numbered, Bears}
use Rattle.models.specs.Automaton.{Model, Lawful, walk, bind}
use Rattle.models.specs.Strings.{Leads}
use Rattle.joinlaw.specs.Words.{letters, listed, Ascending, Over}
use Rattle.joinlaw.specs.Bridges.{serves, filling, Fills}
use Rattle.joinlaw.proofs.Letters.{over-letters}
use Rattle.joinlaw.proofs.Paths.{via, walk_on}
use Rattle.joinlaw.proofs.Fillings.{filling_is, filling_is_none}
use Rattle.joins.specs.Queue.{Picks, step_from, step_by, Found, Nothing}
use Rattle.joins.specs.Spelling.{numbers, spelled, spelling}
use Rattle.joins.proofs.WordOrder.{Le, le_leads}
use Rattle.joins.proofs.FirstWord.{leads, first_word, no_word}

-- all letters of an alphabet
pub all_picked : {K : Type 0} (A : Alphabet K) → Numbered A → Picks A.number (letters A) A.letter
all_picked {K} A numbered = record { sound = sound; within = λ c x e. (over-letters A numbered (x ∷ [])).0; all = λ x m. numbered.given x } where
  sound : (c : ℕ) (x : K) → A.letter c ≡ Some x → A.number x ≡ c
  sound c x e = ⊎_elim
      (λ lt. subst (Bears A.number c) e (numbered.held c lt))
      (λ ge. let none = numbered.past c ge in let z : ◌≡◌ {A = ℕ} 0 1 = cc in absurd (omega arith))
      (cases_lt c A.size)

module _ {K : Type 0} (number : K → ℕ) (fill : List K) (pick : ℕ → Option K) (picks : Picks number fill pick) (m : Model K) where
  -- a string over fill is walked as its numbers are
  walk_by_number : (xs : List K) (q : ℕ) → Over fill xs → walk (step_by pick m) q (map number xs) ≡ walk m.next q xs
  walk_by_number [] q o = refl
  walk_by_number (x ∷ xs) q o =
      ap (λ p. bind (step_from m.next q p) (λ t. walk (step_by pick m) t (map number xs))) (picks.all x o.0)
      ∙ elim (m.next q x) as (λ p. bind p (λ t. walk (step_by pick m) t (map number xs)) ≡ bind p (λ t. walk m.next t xs)) [ Some t ↦ walk_by_number xs t o.1 | None ↦ refl ]

  -- numbers along which a walk goes are those of letters of fill
  spelled-over : (cs : List ℕ) (q t : ℕ) → walk (step_by pick m) q cs ≡ Some t → (map number (spelled pick cs) ≡ cs) × Over fill (spelled pick cs)
  spelled-over [] q t e = (refl, tt)
  spelled-over (c ∷ cs) q t e =
      elim (pick c) as (λ o. pick c ≡ o → bind (step_from m.next q o) (λ s. walk (step_by pick m) s cs) ≡ Some t → (map number (listed o ++ spelled pick cs) ≡ c ∷ cs) × Over fill (listed o ++ spelled pick cs)) [
        | Some x ↦ λ h r. elim (m.next q x) as (λ o. bind o (λ s. walk (step_by pick m) s cs) ≡ Some t → (number x ∷ map number (spelled pick cs) ≡ c ∷ cs) × (Memᴰ x fill × Over fill (spelled pick cs))) [
          | Some s ↦ λ k. let rest = spelled-over cs s t k in (ap (λ n. n ∷ map number (spelled pick cs)) (picks.sound c x h) ∙ ap (λ w. c ∷ w) rest.0, (picks.within c x h, rest.1))
          | None ↦ λ k. let z : ◌≡◌ {A = ℕ} 0 1 = cc in absurd (omega arith)
        ] r
        | None ↦ λ h r. let z : ◌≡◌ {A = ℕ} 0 1 = cc in absurd (omega arith)
      ] refl e

  module _ (apart : (x y : K) → number x ≡ number y → x ≡ y) (ascending : Ascending number fill) (lawful : Lawful m) (v : List K) (start : ℕ) (among : start < m.count) (q p l : ℕ → ℕ) where
    pub found-filling : (head : ℕ) → Found (step_by pick m) (serves m v) start q p l head → filling m fill start v ≡ Some (spelling pick p l head)
    found-filling head found =
        let w = numbers p l head in
        let z = spelling pick p l head in
        let led = leads (step_by pick m) start head found.tail q p l found.searched head found.within in
        let spelt = spelled-over w start (q head) led in
        let same : map number z ≡ w = spelt.0 in
        let there : walk m.next start z ≡ Some (q head) = sym (walk_by_number z start spelt.1) ∙ ap (walk (step_by pick m) start) same ∙ led in
        let least : (y : List K) → Fills m fill start v y → Leads number z y = λ y fills.
        let way = via m.next start y v fills.1 in
        let le : Le w (map number y) = first_word (step_by pick m) start head found.tail q p l found.searched (serves m v) found.before found.within (map number y) way.at (walk_by_number y start fills.0 ∙ way.there) way.on in
        le_leads number z y (subst (λ x. Le x (map number y)) (sym same) le) in
        filling_is number m fill ascending start v lawful among apart z
        ((spelt.1, ap is_some (walk_on m.next start (q head) z v there) ∙ found.is_goal), least)

    pub nothing-filling : Nothing (step_by pick m) (serves m v) start q p l → filling m fill start v ≡ None
    nothing-filling none =
        filling_is_none number m fill ascending start v lawful among
        (λ y fills.
        let way = via m.next start y v fills.1 in
        no_word (step_by pick m) start none.tail none.tail q p l none.searched (serves m v) none.before refl (map number y) way.at (walk_by_number y start fills.0 ∙ way.there) way.on)
