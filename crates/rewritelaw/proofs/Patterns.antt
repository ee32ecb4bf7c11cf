-- The automaton of a list of patterns, and of the patterns with a run limit. Assumes nothing.
use Rattle.std.proofs.Common.{◌≡◌, ℕ, ◌+◌, ◌*◌, ◌≤◌, Bool, true, cond, ◌&&◌, ◌||◌, eqb, ltb, leb, ◌↔◌, List, [], ◌∷◌, ◌++◌, map, length, get_or, Some, None, Ok, Option, Result, refl, ap, subst, ⊎_elim, arith}
use Rattle.std.proofs.lemmas.List.{length-map, map_push}
use Rattle.std.proofs.lemmas.Bool.{cond_both, cond-true, cond-false, lt-ltb, le-ltb, ltb-false, leb-true, eqb-false, and_parts, or_parts}
use Rattle.faults.specs.declared.Fault.{Fault}
use Rattle.models.specs.Alphabet.{Alphabet, Numbered}
use Rattle.models.specs.Automaton.{Model, Lawful, Pass}
use Rattle.runlaw.specs.Runs.{run_model}
use Rattle.runlaw.proofs.Laws.{run-lawful}
use Rattle.runlaw.proofs.Exact.{only_short}
use Rattle.pairlaw.specs.Pairs.{pair_model}
use Rattle.pairlaw.proofs.Products.{pair_lawful, only_both}
use Rattle.listlaw.specs.Patterns.{Word, coded, member, states, hit, longest, memory}
use Rattle.listlaw.specs.Table.{table_model, Right, Means}
use Rattle.listlaw.proofs.Members.{member_cases, member_one}
use Rattle.listlaw.proofs.Laws.{table-lawful, table_means}
use Rattle.lists.specs.Taking.{cause, full}
use Rattle.listings.specs.Listings.{list_model, limited}
use Rattle.listings.proofs.Models.{means_model}
use Rattle.rewritelaw.specs.Laws.{Free, Allowed}

module _ {K : Type 0} (A : Alphabet K) where
  -- what a list can have taken: patterns with letters, and at most 512 states
  pub record Listable (ps : List (List K)) : Type 0 where
    pub solid : (p : Word) → member (coded A ps) p ≡ true → 1 ≤ length p
    pub few : length (states (coded A ps)) ≤ 512

  pub listable_none : Listable []
  listable_none = record { solid = λ p e. absurd (let z : ◌≡◌ {A = ℕ} 0 1 = cc in omega arith); few = omega arith }

  -- nothing speaks against the pattern p
  pub listable_more : (n w : ℕ) (ps : List (List K)) (p : List K) → Listable ps → cause A n w ps p ≡ None → Listable (ps ++ (p ∷ []))
  listable_more n w ps p l =
      cond_both (ltb n 512 || ltb w (512 * A.size)) _ _ Taken (λ _ e. absurd (let z : ◌≡◌ {A = ℕ} 0 1 = cc in omega arith)) (λ _.
      cond_both (eqb (length p) 0 || ltb 12 (length p)) _ _ Taken (λ _ e. absurd (let z : ◌≡◌ {A = ℕ} 0 1 = cc in omega arith)) (λ some.
      cond_both (full A ps p) _ _ Taken (λ _ e. absurd (let z : ◌≡◌ {A = ℕ} 0 1 = cc in omega arith)) (λ room _.
      record {
        solid = λ v e. ⊎_elim (l.solid v)
            (λ here. let same : map A.number p ≡ v = member_one (map A.number p) v here in
            let long = ap length same in
            let none = eqb-false (length p) 0 (or_parts (eqb (length p) 0) (ltb 12 (length p)) some).0 in
            omega (arith, none, length-map p A.number))
            (member_cases (coded A ps) (map A.number p ∷ []) v (subst (λ cs. member cs v ≡ true) (map_push (map A.number) ps p) e));
        few = ltb-false 512 (length (states (coded A (ps ++ (p ∷ []))))) (or_parts (leb 64 (length ps)) (ltb 512 (length (states (coded A (ps ++ (p ∷ [])))))) room).1;
      })))
    where
      Taken : Option Fault → Type 0
      Taken o = o ≡ None → Listable (ps ++ (p ∷ []))

  module _ (numbered : Numbered A) (ps : List (List K)) (l : Listable ps) where
    cs : List Word
    cs = coded A ps

    -- where a letter stops, and where it leads
    stop : ℕ → ℕ → Bool
    stop q a = cond (ltb a A.size) (hit cs (get_or (states cs) q [] ++ (a ∷ []))) true

    goes : ℕ → ℕ → ℕ
    goes q a = longest (states cs) (get_or (states cs) q [] ++ (a ∷ []))

    right : Right (coded A ps) (length (states (coded A ps))) A.size stop goes
    unfolding cs stop goes
    right = record {
      count = refl;
      solid = l.solid;
      stops = λ q a h k. cond-true (ltb a A.size) (hit cs (get_or (states cs) q [] ++ (a ∷ []))) true (lt-ltb a A.size k);
      strange = λ q a h k. cond-false (ltb a A.size) (hit cs (get_or (states cs) q [] ++ (a ∷ []))) true (le-ltb a A.size k);
      leads = λ q a h k. refl;
    }

    table : Model K
    table = table_model A.number (length (states (coded A ps))) stop goes (memory (coded A ps))

    table_is : table ≡ list_model A ps
    unfolding table
    table_is = means_model A table ps (table_means A numbered ps (length (states (coded A ps))) A.size stop goes (memory (coded A ps)) (omega arith) right refl) refl (λ q x h. rw (le-ltb q (length (states (coded A ps))) h))

    pub list_means : Means A (list_model A ps) ps
    unfolding table
    list_means = subst (λ m. Means A m ps) table_is (table_means A numbered ps (length (states (coded A ps))) A.size stop goes (memory (coded A ps)) (omega arith) right refl)

    pub list_lawful : Lawful (list_model A ps)
    unfolding table
    list_lawful = subst Lawful table_is (table-lawful (length (states (coded A ps))) A.size stop goes (memory (coded A ps)) ∣ (coded A ps, (right, refl)) ∣₁ A.number (omega (arith, l.few)))

    free_pass : (xs : List K) → Pass (list_model A ps) xs ↔ Free ps xs
    free_pass xs = (λ pass p has o. list_means.stops xs p has o pass, list_means.passes xs)

    -- the automaton of the patterns and a run limit lets pass exactly what is allowed
    pub record Settled (r : Option ℕ) (m : Model K) : Type 0 where
      pub lawful : Lawful m
      pub passes : (xs : List K) → Pass m xs ↔ Allowed ps r xs

    abbrev pub Of : Option ℕ → Result (Model K) Fault → Type 0
    Of r o = (m : Model K) → o ≡ Ok m → Settled r m

    pub settled : (r : Option ℕ) → Of r (limited (list_model A ps) A r Ok)
    settled None = λ m e. let same : list_model A ps ≡ m = cc in subst (Settled None) same (record { lawful = list_lawful; passes = free_pass })
    settled (Some r) =
        cond_both (leb 1 r && leb r 8) _ _ (Of (Some r)) (λ range.
        cond_both (leb ((list_model A ps).count * (1 + r * A.size)) 4096) _ _ (Of (Some r)) (λ room m e.
        let run = run_model A r in
        let some = leb-true 1 r (and_parts (leb 1 r) (leb r 8) range).0 in
        let law = run-lawful A numbered r some (leb-true r 8 (and_parts (leb 1 r) (leb r 8) range).1) in
        let both = only_both (list_model A ps) run list_lawful law (leb-true ((list_model A ps).count * (1 + r * A.size)) 4096 room) in
        let short = only_short A numbered r some in
        let same : pair_model (list_model A ps) run ≡ m = cc in
        subst (Settled (Some r)) same (record {
          lawful = pair_lawful (list_model A ps) run list_lawful law;
          passes = λ xs. (
            λ p. ((free_pass xs).0 ((both xs).0 p).0, (short xs).0 ((both xs).0 p).1),
            λ a. (both xs).1 ((free_pass xs).1 a.0, (short xs).1 a.1),
          );
        })) (λ _ m e. absurd (let z : ◌≡◌ {A = ℕ} 0 1 = cc in omega arith))) (λ _ m e. absurd (let z : ◌≡◌ {A = ℕ} 0 1 = cc in omega arith))
