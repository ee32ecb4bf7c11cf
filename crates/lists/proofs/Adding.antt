-- When a pattern is refused, and what is held once it is taken. Assumes nothing.
use Rattle.std.proofs.Common.{◌≡◌, ℕ, zero, suc, ◌*◌, ◌<◌, ◌≤◌, true, false, cond, ◌||◌, eqb, ltb, leb, List, [], ◌∷◌, ◌++◌, map, length, get_or, take, Some, None, sym, ap, ◌∙◌, subst, arith}
use Rattle.std.proofs.lemmas.List.{map_push, length-map, take_all, get_or-take}
use Rattle.std.proofs.lemmas.Bool.{le-ltb, ne_eqb, cond-true, cond-false, or_from}
use Rattle.models.specs.Alphabet.{Alphabet, Numbered}
use Rattle.faults.specs.Causes.{full_list}
use Rattle.listlaw.specs.Patterns.{Word, coded, gather, fronts, states}
use Rattle.listlaw.proofs.States.{states_push}
use Rattle.lists.specs.Names.{names}
use Rattle.lists.specs.Lists.{Lists}
use Rattle.lists.specs.declared.builder.Builder.{Builder}
use Rattle.lists.specs.declared.word.Spelling.{Spelling}
use Rattle.lists.specs.History.{Holds}
use Rattle.lists.specs.Words.{Spells}
use Rattle.lists.specs.Taking.{Roomy, full, cause}

module _ {K : Type 0} (A : Alphabet K) where
  pub coded_push : (ps : List (List K)) (p : List K) → coded A (ps ++ (p ∷ [])) ≡ coded A ps ++ (map A.number p ∷ [])
  coded_push ps p = map_push (map A.number) ps p

  number-small : Numbered A → (p : List K) (i : ℕ) → i < length p → get_or (map A.number p) i 0 < A.size
  number-small numbered [] i h = absurd (omega arith)
  number-small numbered (x ∷ p) zero h = numbered.below x
  number-small numbered (x ∷ p) (suc i) h = number-small numbered p i (omega arith)

  -- a spelling has numbers of letters alone
  pub spelt_small : Numbered A → (first : List ℕ) (count : ℕ) (p : List K) → Spells first count (map A.number p) → (i : ℕ) → i < count → i < 12 → get_or first i 0 < A.size
  spelt_small numbered first count p s i lt short =
      let small = number-small numbered p i (omega (arith, s.1, length-map p A.number)) in
      omega (arith, get_or-take count first i 0 lt, ap (λ (l : List ℕ). get_or l i 0) s.2, get_or-take 12 (map A.number p) i 0 short)

  -- the list b, which has taken ps, is given p, whose spelling makes the word w
  module _ (n m : ℕ) (b : Builder K) (ps : List (List K)) (holds : Holds A n m b ps) (s : Spelling) (p : List K) (spells : Spells s.first s.count (map A.number p)) (w : Word) (is : (1 ≤ s.count) × (s.count ≤ 12) × (w ≡ take s.count s.first)) (long : Roomy A (length b.tree.records.now) (length b.words.now)) where
    numbers : w ≡ map A.number p
    numbers = is.2 ∙ spells.2 ∙ take_all 12 (map A.number p) (omega (arith, spells.1))

    -- the tables are as long as they were when the list was started
    roomy : Roomy A n m
    roomy = (omega (arith, holds.deep, long.0), omega (arith, holds.broad, long.1))

    count : b.taken ≡ length ps
    count = holds.lists.count ∙ length-map ps (map A.number)

    full_is : (leb 64 b.taken || ltb 512 (length (gather (names b.tree.records.now b.tree.used) (fronts w)))) ≡ full A ps p
    full_is =
        ap (λ (k : ℕ). leb 64 k || ltb 512 (length (gather (names b.tree.records.now b.tree.used) (fronts w)))) count
        ∙ ap (λ (ws : List Word). leb 64 (length ps) || ltb 512 (length ws)) (ap (λ (l : List Word). gather l (fronts w)) holds.lists.names ∙ ap (λ (v : Word). gather (states (coded A ps)) (fronts v)) numbers ∙ sym (states_push (coded A ps) (map A.number p)) ∙ ap states (sym (coded_push ps p)))

    rest : cause A n m ps p ≡ cond (full A ps p) (Some (full_list (length ps))) None
    rest =
        let k : length p ≡ s.count = omega (arith, spells.1, length-map p A.number) in
        cond-false (ltb n 512 || ltb m (512 * A.size)) _ _ (or_from (ltb n 512) (ltb m (512 * A.size)) (le-ltb n 512 roomy.0) (le-ltb m (512 * A.size) roomy.1))
        ∙ cond-false (eqb (length p) 0 || ltb 12 (length p)) _ _ (or_from (eqb (length p) 0) (ltb 12 (length p)) (ne_eqb (length p) 0 (λ e. omega (arith, is.0))) (le-ltb 12 (length p) (omega (arith, is.1))))

    pub cause-full : true ≡ (leb 64 b.taken || ltb 512 (length (gather (names b.tree.records.now b.tree.used) (fronts w)))) → Some (full_list b.taken) ≡ cause A n m ps p
    cause-full f = ap (λ (k : ℕ). Some (full_list k)) count ∙ sym (rest ∙ cond-true (full A ps p) _ _ (sym (f ∙ full_is)))

    pub cause-none : false ≡ (leb 64 b.taken || ltb 512 (length (gather (names b.tree.records.now b.tree.used) (fronts w)))) → None ≡ cause A n m ps p
    cause-none f = sym (rest ∙ cond-false (full A ps p) _ _ (sym (f ∙ full_is)))

    pub holds_more : (e : Builder K) → length e.tree.records.now ≡ length b.tree.records.now → e.words.now ≡ b.words.now → ((qs : List Word) → Lists b.tree.records.now b.tree.used b.taken b.longest qs → Lists e.tree.records.now e.tree.used e.taken e.longest (qs ++ (w ∷ []))) → Holds A n m e (ps ++ (p ∷ []))
    holds_more e d same more = record {
      deep = d ∙ holds.deep;
      broad = ap length same ∙ holds.broad;
      lists = subst (Lists e.tree.records.now e.tree.used e.taken e.longest) (ap (λ (v : Word). coded A ps ++ (v ∷ [])) numbers ∙ sym (coded_push ps p)) (more (coded A ps) holds.lists);
      wide = λ h. roomy;
    }
