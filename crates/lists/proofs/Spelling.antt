-- What records spell, and what one more spells. Assumes nothing.
use Rattle.std.proofs.Common.{◌≡◌, ℕ, ◌+◌, ◌<◌, ◌≤◌, true, false, ◌⊎◌, List, [], ◌∷◌, ◌++◌, length, get_or, take, drop, set, sym, refl, ap, ◌∙◌, subst, inl, inr, ⊎_elim, arith}
use Rattle.std.proofs.Math.Nat.{eq-zero-or-pos}
use Rattle.std.proofs.lemmas.List.{take_more, take_more_set, get_or_append_left, get_or_push, length_push, length-take-le, take-append-drop, take-take, same_from_push}
use Rattle.std.proofs.lemmas.Bool.{cases_lt}
use Rattle.listlaw.specs.Patterns.{Word, member, place}
use Rattle.listlaw.proofs.Members.{never, member-at, place-below, place_at}
use Rattle.listlaw.proofs.States.{Closed}
use Rattle.lists.specs.declared.record.Record.{Record}
use Rattle.lists.specs.Names.{blank, rec, grow, spelled, names, Trie}

grow-append : (xs : List Record) (acc : List Word) (ys : List Record) → grow acc (xs ++ ys) ≡ grow (grow acc xs) ys
grow-append [] acc ys = refl
grow-append (x ∷ xs) acc ys = grow-append xs (acc ++ ((get_or acc x.parent [] ++ (x.letter ∷ [])) ∷ [])) ys

length-grow : (xs : List Record) (acc : List Word) → length (grow acc xs) ≡ length acc + length xs
length-grow [] acc = omega arith
length-grow (x ∷ xs) acc =
    let w = get_or acc x.parent [] ++ (x.letter ∷ []) in
    omega (arith, length-grow xs (acc ++ (w ∷ [])), length_push acc w)

grow-kept : (xs : List Record) (acc : List Word) (i : ℕ) → i < length acc → get_or (grow acc xs) i [] ≡ get_or acc i []
grow-kept [] acc i h = refl
grow-kept (x ∷ xs) acc i h =
    let w = get_or acc x.parent [] ++ (x.letter ∷ []) in
    grow-kept xs (acc ++ (w ∷ [])) i (omega (arith, length_push acc w)) ∙ get_or_append_left acc (w ∷ []) [] i h

spelled-append : (xs ys : List Record) → 0 < length xs → spelled (xs ++ ys) ≡ grow (spelled xs) ys
spelled-append [] ys h = absurd (omega arith)
spelled-append (x ∷ xs) ys h = grow-append xs ([] ∷ []) ys

length-spelled : (xs : List Record) → 0 < length xs → length (spelled xs) ≡ length xs
length-spelled [] h = absurd (omega arith)
length-spelled (x ∷ xs) h = omega (arith, length-grow xs ([] ∷ []))

spelled-first : (xs : List Record) → get_or (spelled xs) 0 [] ≡ []
spelled-first [] = refl
spelled-first (x ∷ xs) = grow-kept xs ([] ∷ []) 0 (omega arith)

-- one state is the empty word
pub names_one : (ns : List Record) → names ns 1 ≡ [] ∷ []
names_one [] = refl
names_one (x ∷ ns) = refl

pub names-first : (ns : List Record) (used : ℕ) → get_or (names ns used) 0 [] ≡ []
names-first ns used = spelled-first (take used ns)

module _ (ns : List Record) (used : ℕ) (fits : 1 < used → used ≤ length ns) where
  pub length-names : 1 ≤ used → length (names ns used) ≡ used
  length-names some = ⊎_elim
      (λ more. let e = length-take-le used ns (fits more) in length-spelled (take used ns) (omega arith) ∙ e)
      (λ few. let one : used ≡ 1 = omega arith in ap (λ (k : ℕ). length (names ns k)) one ∙ ap length (names_one ns) ∙ sym one)
      (cases_lt 1 used)

  -- a state's word does not change as states are added
  names-kept : (k i : ℕ) → i < k → k ≤ used → get_or (names ns used) i [] ≡ get_or (names ns k) i []
  names-kept k i lt le = ⊎_elim
      (λ more.
      let front : take used ns ≡ take k ns ++ drop k (take used ns) =
      sym (take-append-drop k (take used ns)) ∙ ap (λ (l : List Record). l ++ drop k (take used ns)) (take-take k used ns le) in
      let long = length-take-le k ns (omega (arith, fits more)) in
      ap (λ (l : List Record). get_or (spelled l) i []) front
      ∙ ap (λ (l : List Word). get_or l i []) (spelled-append (take k ns) (drop k (take used ns)) (omega arith))
      ∙ grow-kept (drop k (take used ns)) (names ns k) i (omega (arith, length-spelled (take k ns) (omega arith))))
      (λ few. let same : used ≡ k = omega arith in ap (λ (n : ℕ). get_or (names ns n) i []) same)
      (cases_lt 1 used)

-- one record more
pub names_push : (ns : List Record) (used : ℕ) (n : Record) → 0 < used → used < length ns → names (set ns used n) (used + 1) ≡ names ns used ++ ((get_or (names ns used) n.parent [] ++ (n.letter ∷ [])) ∷ [])
names_push ns used n some lt =
    let long = length-take-le used ns (omega arith) in
    ap spelled (take_more_set ns used n lt) ∙ spelled-append (take used ns) (n ∷ []) (omega arith)

names_more : (ns : List Record) (i : ℕ) → 0 < i → i < length ns → names ns (i + 1) ≡ names ns i ++ ((get_or (names ns i) (rec ns i).parent [] ++ ((rec ns i).letter ∷ [])) ∷ [])
names_more ns i some lt =
    let long = length-take-le i ns (omega arith) in
    ap spelled (take_more ns i blank lt) ∙ spelled-append (take i ns) (rec ns i ∷ []) (omega arith)

-- a state's word is its parent's and its letter
pub names_step : (ns : List Record) (used i : ℕ) → (1 < used → used ≤ length ns) → 0 < i → i < used → (rec ns i).parent < i → get_or (names ns used) i [] ≡ get_or (names ns used) (rec ns i).parent [] ++ ((rec ns i).letter ∷ [])
names_step ns used i fits some lt under =
    let p = (rec ns i).parent in
    let c = (rec ns i).letter in
    let all : used ≤ length ns = fits (omega arith) in
    names-kept ns used fits (i + 1) i (omega arith) (omega arith)
    ∙ ap (λ (l : List Word). get_or l i []) (names_more ns i some (omega arith))
    ∙ get_or_push (names ns i) (get_or (names ns i) p [] ++ (c ∷ [])) [] i (length-names ns i (λ h. omega arith) (omega arith))
    ∙ ap (λ (w : Word). w ++ (c ∷ [])) (sym (names-kept ns used fits i p under (omega arith)))

module _ (ns : List Record) (used : ℕ) (trie : Trie ns used) where
  fits : 1 < used → used ≤ length ns
  fits h = omega (arith, trie.1, trie.5 h)

  -- the state of s and a letter hangs under the state of s
  pub parent_of : (i : ℕ) → i < used → (s : Word) (c : ℕ) → get_or (names ns used) i [] ≡ s ++ (c ∷ []) → (0 < i) × ((rec ns i).parent < used) × (get_or (names ns used) (rec ns i).parent [] ≡ s) × ((rec ns i).letter ≡ c)
  parent_of i lt s c e = go (eq-zero-or-pos i)
    where
      go : (i ≡ 0) ⊎ (0 < i) → (0 < i) × ((rec ns i).parent < used) × (get_or (names ns used) (rec ns i).parent [] ≡ s) × ((rec ns i).letter ≡ c)
      go (inl z) =
          let none : get_or (names ns used) i [] ≡ [] = ap (λ (k : ℕ). get_or (names ns used) k []) z ∙ names-first ns used in
          absurd (omega (arith, ap length (sym none ∙ e), length_push s c))
      go (inr h) =
          let b = trie.2 i h lt in
          let both = same_from_push (get_or (names ns used) (rec ns i).parent []) s (rec ns i).letter c (sym (names_step ns used i fits h lt b) ∙ e) in
          (h, omega arith, both.0, both.1)

  pub count : length (names ns used) ≡ used
  count = length-names ns used fits trie.0

  -- a word of a state stands at that state
  pub place_of : (i : ℕ) → i < used → (w : Word) → get_or (names ns used) i [] ≡ w → (member (names ns used) w ≡ true) × (place (names ns used) w ≡ i)
  place_of i lt w e =
      (subst (λ (v : Word). member (names ns used) v ≡ true) e (member-at (names ns used) i (omega (arith, count))), ap (place (names ns used)) (sym e) ∙ trie.4 i (omega (arith, count)))

  pub state_of : (w : Word) → member (names ns used) w ≡ true → (place (names ns used) w < used) × (get_or (names ns used) (place (names ns used) w) [] ≡ w)
  state_of w m = (omega (arith, count, place-below (names ns used) w m), place_at (names ns used) w m)

  pub names-closed : Closed (names ns used)
  names-closed w c m =
      let s = state_of (w ++ (c ∷ [])) m in
      let p = parent_of (place (names ns used) (w ++ (c ∷ []))) s.0 w c s.1 in
      (place_of (rec ns (place (names ns used) (w ++ (c ∷ [])))).parent p.1 w p.2).0

  -- the child of a state by a letter is the state of its word and the letter, and where there is none that is no state
  pub child_state : (under a j : ℕ) → (0 < j) × (j < used) × ((rec ns j).parent ≡ under) × ((rec ns j).letter ≡ a) → get_or (names ns used) j [] ≡ get_or (names ns used) under [] ++ (a ∷ [])
  child_state under a j h =
      names_step ns used j fits h.0 h.1 (trie.2 j h.0 h.1)
      ∙ ap (λ (k : ℕ). get_or (names ns used) k [] ++ ((rec ns j).letter ∷ [])) h.2
      ∙ ap (λ (c : ℕ). get_or (names ns used) under [] ++ (c ∷ [])) h.3

  pub child_none : (under a : ℕ) → under < used → ((j : ℕ) → 0 < j → j < used → (rec ns j).parent ≡ under → (rec ns j).letter ≡ a → ⊥) → member (names ns used) (get_or (names ns used) under [] ++ (a ∷ [])) ≡ false
  child_none under a lt none = never (member (names ns used) (get_or (names ns used) under [] ++ (a ∷ []))) (λ m.
      let w : Word = get_or (names ns used) under [] ++ (a ∷ []) in
      let s = state_of w m in
      let i : ℕ = place (names ns used) w in
      let p = parent_of i s.0 (get_or (names ns used) under []) a s.1 in
      let same : (rec ns i).parent ≡ under = sym (place_of (rec ns i).parent p.1 (get_or (names ns used) under []) p.2).1 ∙ trie.4 under (omega (arith, count)) in
      none i p.0 s.0 same p.3)
