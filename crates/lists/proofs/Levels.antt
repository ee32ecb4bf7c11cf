-- States in the order in which they are settled: by length, then by number. Assumes nothing.
use Rattle.std.proofs.Common.{◌≡◌, ℕ, ◌+◌, ◌*◌, ◌<◌, ◌≤◌, Bool, true, ◌||◌, List, [], ◌∷◌, ◌++◌, length, get_or, sym, ap, ◌∙◌, subst, inl, inr, ⊎_elim, arith}
use Rattle.std.proofs.Math.Bool.{or-false}
use Rattle.std.proofs.lemmas.List.{nil_from_length}
use Rattle.std.proofs.lemmas.Bool.{cases_lt}
use Rattle.listlaw.specs.Patterns.{Word, member, states, hit, longest}
use Rattle.listlaw.proofs.Members.{never}
use Rattle.lists.specs.declared.record.Record.{Record}
use Rattle.lists.specs.Names.{names, Trie}
use Rattle.lists.specs.Lists.{columns, Marks}
use Rattle.lists.specs.Links.{Before, Shape, Endings, Planted}
use Rattle.lists.proofs.Spelling.{names-first, place_of}
use Rattle.lists.proofs.Settling.{root_row}

module _ (ns : List Record) (words : List ℕ) (used d i d' i' : ℕ) (back : (q : ℕ) → q < used → Before (names ns used) d' i' q → Before (names ns used) d i q) where
  pub shape_by : Shape ns words used d i → Shape ns words used d' i'
  shape_by s = record {
    links = λ q pos l b. s.links q pos l (back q l b);
    rows = λ q a l h b. s.rows q a l h (back q l b);
  }

  pub endings_by : ((q : ℕ) → q < used → Before (names ns used) d i q → Before (names ns used) d' i' q) → (ps : List Word) → Endings ns used d i ps → Endings ns used d' i' ps
  endings_by on ps e = record {
    spelt = e.spelt;
    solid = e.solid;
    done = λ q a l h b. e.done q a l h (back q l b);
    left = λ q a l h b. e.left q a l h (λ k. b (on q l k));
  }

module _ (ws : List Word) where
  -- a state of another length is passed over
  pub skip_back : (d i : ℕ) → (length (get_or ws i []) ≡ d → ⊥) → (q : ℕ) → Before ws d (i + 1) q → Before ws d i q
  skip_back d i ne q b = ⊎_elim inl (λ h. inr (h.0, ⊎_elim (λ k. k) (λ k. let e : q ≡ i = omega (arith, h.1) in absurd (ne (ap (λ (n : ℕ). length (get_or ws n [])) (sym e) ∙ h.0))) (cases_lt q i))) b

  pub skip_on : (d i : ℕ) → (q : ℕ) → Before ws d i q → Before ws d (i + 1) q
  skip_on d i q b = ⊎_elim inl (λ h. inr (h.0, omega (arith, h.1))) b

  -- all states of a length are settled, and the next length begins
  pub next_back : get_or ws 0 [] ≡ [] → (d i used : ℕ) → used ≤ i → (q : ℕ) → q < used → Before ws (d + 1) 1 q → Before ws d i q
  next_back first d i used full q l b = ⊎_elim
      (λ h. ⊎_elim inl (λ k. inr (omega arith, omega arith)) (cases_lt (length (get_or ws q [])) d))
      (λ h. let e : q ≡ 0 = omega (arith, h.1) in absurd (omega (arith, h.0, ap (λ (n : ℕ). length (get_or ws n [])) e, ap length first)))
      b

  pub next_on : (d i : ℕ) → (q : ℕ) → Before ws d i q → Before ws (d + 1) 1 q
  next_on d i q b = ⊎_elim (λ h. inl (omega arith)) (λ h. inl (omega (arith, h.0))) b

module _ (ns : List Record) (used : ℕ) (trie : Trie ns used) where
  -- before those of one letter stands the empty one alone
  pub first_only : (q : ℕ) → q < used → Before (names ns used) 1 1 q → q ≡ 0
  first_only q l b = ⊎_elim
      (λ h.
      let e : get_or (names ns used) q [] ≡ [] = nil_from_length (get_or (names ns used) q []) (omega arith) in
      sym (place_of ns used trie q l [] e).1 ∙ (place_of ns used trie 0 trie.0 [] (names-first ns used)).1)
      (λ h. omega (arith, h.1))
      b

  pub first_shape : (words mid last : List ℕ) → ((a : ℕ) → a < columns last → get_or mid (a * 512 + 0) 0 ≡ 0) → ((a : ℕ) → a < columns last → Planted ns mid last 0 used a) → Shape ns last used 1 1
  first_shape words mid last none planted = record {
    links = λ q pos l b. absurd (omega (arith, first_only q l b));
    rows = λ q a l h b. subst (λ (n : ℕ). get_or last (a * 512 + n) 0 ≡ longest (names ns used) (get_or (names ns used) n [] ++ (a ∷ []))) (sym (first_only q l b)) (root_row ns used trie a mid last (none a h) (planted a h));
  }

  pub first_endings : (ps : List Word) → names ns used ≡ states ps → ((p : Word) → member ps p ≡ true → 1 ≤ length p) → Marks ns used ps → Endings ns used 1 1 ps
  first_endings ps spelt solid marks = record {
    spelt = spelt;
    solid = solid;
    done = λ q a l h b.
        let e : get_or (names ns used) q [] ≡ [] = ap (λ (n : ℕ). get_or (names ns used) n []) (first_only q l b) ∙ names-first ns used in
        marks q a l h ∙ ap (λ (w : Word). member ps (w ++ (a ∷ []))) e ∙ alone a ∙ ap (λ (w : Word). hit ps (w ++ (a ∷ []))) (sym e);
    left = λ q a l h b. marks q a l h;
  }
    where
      alone : (a : ℕ) → member ps (a ∷ []) ≡ hit ps (a ∷ [])
      alone a = sym (or-false (member ps (a ∷ []))) ∙ ap (λ (b : Bool). member ps (a ∷ []) || b) (sym (never (member ps []) (λ m. omega (arith, solid [] m))))
