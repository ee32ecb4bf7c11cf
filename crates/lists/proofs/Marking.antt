-- A pattern more: its prefixes are entered, and its end is marked. Assumes nothing.
use Rattle.std.proofs.Common.{◌≡◌, ℕ, zero, suc, ◌+◌, ◌-◌, ◌^◌, ◌<◌, ◌≤◌, max, Bool, true, false, ◌||◌, eqb, List, [], ◌∷◌, ◌++◌, length, get_or, take, set, sym, refl, ap, ◌∙◌, subst, ⊎_elim, arith, length-set}
use native.Mathlib.Decide.{ℕ_discrete}
use Rattle.std.proofs.Math.Bool.{or-false}
use Rattle.std.proofs.lemmas.List.{take_more, take_all, get_or-set_same, get_or-set_other, length_push, same_from_push}
use Rattle.std.proofs.lemmas.Bool.{cases_lt, cases_Bool, eq-eqb, ne_eqb}
use Rattle.listlaw.specs.Patterns.{Word, same, member, place, gather, fronts, states, Places}
use Rattle.listlaw.proofs.Members.{never, not_same, same_refl, same_eq, member-append, member_cases, member_one}
use Rattle.listlaw.proofs.Gathering.{gather-at}
use Rattle.listlaw.proofs.States.{states_push, states_fronted, extent_push}
use Rattle.lists.specs.declared.record.Record.{Record}
use Rattle.lists.specs.Names.{blank, rec, with_end, grow, names, Trie, Under, Entered}
use Rattle.lists.specs.Lists.{bit, Lists}
use Rattle.lists.specs.declared.tree.Tree.{Tree}
use Rattle.lists.specs.declared.word.Word.{Word as Given}
use Rattle.lists.proofs.Children.{trie as trie_of}
use Rattle.lists.proofs.Spelling.{count, place_of, state_of}
use Rattle.lists.proofs.Bitwise.{bit_zero, bit-bit_or, bit_pow}

grow_set : (n : Record) (xs : List Record) (u i : ℕ) (acc : List Word) → n.parent ≡ (rec xs i).parent → n.letter ≡ (rec xs i).letter → grow acc (take u (set xs i n)) ≡ grow acc (take u xs)
grow_set n [] u i acc p l = refl
grow_set n (x ∷ xs) zero i acc p l = refl
grow_set n (x ∷ xs) (suc u) zero acc p l =
    ap (λ (k : ℕ). grow (acc ++ ((get_or acc k [] ++ (n.letter ∷ [])) ∷ [])) (take u xs)) p
    ∙ ap (λ (c : ℕ). grow (acc ++ ((get_or acc x.parent [] ++ (c ∷ [])) ∷ [])) (take u xs)) l
grow_set n (x ∷ xs) (suc u) (suc i) acc p l = grow_set n xs u i (acc ++ ((get_or acc x.parent [] ++ (x.letter ∷ [])) ∷ [])) p l

-- a record with the same parent and letter spells the same
pub names_set : (n : Record) (ns : List Record) (used i : ℕ) → n.parent ≡ (rec ns i).parent → n.letter ≡ (rec ns i).letter → names (set ns i n) used ≡ names ns used
names_set n [] used i p l = refl
names_set n (x ∷ xs) zero i p l = refl
names_set n (x ∷ xs) (suc u) zero p l = refl
names_set n (x ∷ xs) (suc u) (suc i) p l = grow_set n xs u i ([] ∷ []) p l

-- what a record says of its place does not change where the record there does not
pub rec_set : {X : Type 0} (f : Record → X) (ns : List Record) (q : ℕ) (n : Record) → q < length ns → f n ≡ f (rec ns q) → (i : ℕ) → f (rec (set ns q n) i) ≡ f (rec ns i)
rec_set f ns q n room e i = go (ℕ_discrete i q)
  where
    go : Dec (i ≡ q) → f (rec (set ns q n) i) ≡ f (rec ns i)
    go (yes is) = ap (λ (k : ℕ). f (rec (set ns q n) k)) is ∙ ap f (get_or-set_same ns q n blank room) ∙ e ∙ ap (λ (k : ℕ). f (rec ns k)) (sym is)
    go (no ne) = ap f (get_or-set_other ns q i n blank ne)

module _ (ns : List Record) (used q : ℕ) (n : Record) (room : q < length ns) (p : n.parent ≡ (rec ns q).parent) (l : n.letter ≡ (rec ns q).letter) (d : n.length ≡ (rec ns q).length) where
  pub trie_set : Trie ns used → Trie (set ns q n) used
  trie_set trie = (
    trie.0,
    trie.1,
    (λ i pos h. omega (arith, trie.2 i pos h, rec_set (λ (m : Record). m.parent) ns q n room p i)),
    (λ i pos h. rec_set (λ (m : Record). m.length) ns q n room d i ∙ trie.3 i pos h ∙ ap (λ (ws : List Word). length (get_or ws i [])) (sym (names_set n ns used q p l))),
    subst Places (sym (names_set n ns used q p l)) trie.4,
    λ h. omega (arith, trie.5 h, length-set ns q n),
  )

  pub under_set : (m : ℕ) → Under m ns used → Under m (set ns q n) used
  under_set m u i pos h = omega (arith, u i pos h, rec_set (λ (m : Record). m.letter) ns q n room l i)

-- the tree o after the prefixes of a word were entered is t
module _ (o t : Tree) (word : Given) (at : ℕ) (room : at < length t.records.now) (e : Entered o.records.now t.records.now o.used word.letters.now (length word.letters.now - 1) at t.used) where
  abbrev old : List Record
  old = o.records.now

  abbrev ns : List Record
  ns = t.records.now

  abbrev used : ℕ
  used = o.used

  abbrev more : ℕ
  more = t.used

  abbrev w : Word
  w = word.letters.now

  some : 1 ≤ length w
  some = word.some

  trie : Trie old used
  trie = trie_of o

  grown : Trie ns more
  grown = trie_of t

  whole : take (length w - 1 + 1) w ≡ w
  whole = take_all (length w - 1 + 1) w (omega arith)

  -- the pattern is its longest proper prefix and its last letter
  ends : w ≡ get_or (names ns more) at [] ++ (get_or w (length w - 1) 0 ∷ [])
  ends = sym whole ∙ take_more w (length w - 1) 0 (omega arith) ∙ ap (λ (v : Word). v ++ (get_or w (length w - 1) 0 ∷ [])) (sym e.word)

  -- the state where it ends
  abbrev marked : Record
  marked = with_end (rec ns at) (2 ^ get_or w (length w - 1) 0)

  marked-under : (m : ℕ) → Under m old used → ((i : ℕ) → i < length w → get_or w i 0 < m) → Under m (set ns at (with_end (rec ns at) (2 ^ get_or w (length w - 1) 0))) more
  marked-under m u l = under_set ns more at marked room refl refl refl m (e.letters m u l)

  module _ (taken longest : ℕ) (ps : List Word) (lists : Lists old used taken longest ps) where
    all : names ns more ≡ states (ps ++ (w ∷ []))
    all = e.states ∙ ap (λ (v : Word). gather (names old used) (fronts v)) whole ∙ ap (λ (l : List Word). gather l (fronts w)) lists.names ∙ sym (states_push ps w)

    long : length (names old used) ≡ used
    long = count old used trie

    same_word : (q : ℕ) → q < used → get_or (names ns more) q [] ≡ get_or (names old used) q []
    same_word q h = ap (λ (l : List Word). get_or l q []) e.states ∙ gather-at (fronts (take (length w - 1 + 1) w)) (names old used) [] q (omega (arith, long))

    -- the marks as they were
    before : 512 ≤ length old → (q a : ℕ) → q < more → a < 32 → bit (rec ns q).ends a ≡ member ps (get_or (names ns more) q [] ++ (a ∷ []))
    before far q a h l = ⊎_elim
        (λ lt. ap (λ (m : Record). bit m.ends a) (e.fresh.0 q lt) ∙ lists.marks far q a lt l ∙ ap (λ (v : Word). member ps (v ++ (a ∷ []))) (sym (same_word q lt)))
        (λ ge.
        let v : Word = get_or (names ns more) q [] in
        let none : member ps (v ++ (a ∷ [])) ≡ false = never (member ps (v ++ (a ∷ []))) (λ m.
        let st : member (names old used) v ≡ true = ap (λ (l : List Word). member l v) lists.names ∙ states_fronted ps v a m in
        let s = state_of old used trie v st in
        let i : ℕ = place (names old used) v in
        let is : i ≡ q = sym (place_of ns more grown i (omega (arith, s.0, e.grows)) v (same_word i s.0 ∙ s.1)).1 ∙ (place_of ns more grown q h v refl).1 in
        omega (arith, s.0)) in
        ap (λ (m : ℕ). bit m a) (e.fresh.1 q ge h) ∙ bit_zero a ∙ sym none)
        (cases_lt q used)

    -- and with the new one
    one : (v : Word) → member (w ∷ []) v ≡ same w v
    one v = elim (same w v) as (λ b. (b || false) ≡ b) [ true ↦ refl | false ↦ refl ]

    after : 512 ≤ length old → (q a : ℕ) → q < more → a < 32 → bit (rec (set ns at marked) q).ends a ≡ member (ps ++ (w ∷ [])) (get_or (names ns more) q [] ++ (a ∷ []))
    after far q a h l = go (ℕ_discrete q at)
      where
        split : member (ps ++ (w ∷ [])) (get_or (names ns more) q [] ++ (a ∷ [])) ≡ (bit (rec ns q).ends a || same w (get_or (names ns more) q [] ++ (a ∷ [])))
        split =
            member-append ps (w ∷ []) (get_or (names ns more) q [] ++ (a ∷ []))
            ∙ ap (λ (b : Bool). b || member (w ∷ []) (get_or (names ns more) q [] ++ (a ∷ []))) (sym (before far q a h l))
            ∙ ap (λ (b : Bool). bit (rec ns q).ends a || b) (one (get_or (names ns more) q [] ++ (a ∷ [])))

        -- the pattern is the word of q and a exactly if q is where it ends and a is its last letter
        parts : w ≡ get_or (names ns more) q [] ++ (a ∷ []) → (q ≡ at) × (get_or w (length w - 1) 0 ≡ a)
        parts s =
            let both = same_from_push (get_or (names ns more) at []) (get_or (names ns more) q []) (get_or w (length w - 1) 0) a (sym ends ∙ s) in
            (sym (place_of ns more grown q h (get_or (names ns more) q []) refl).1 ∙ (place_of ns more grown at e.inside (get_or (names ns more) q []) both.0).1, both.1)

        here : q ≡ at → same w (get_or (names ns more) q [] ++ (a ∷ [])) ≡ eqb (get_or w (length w - 1) 0) a
        here is = ⊎_elim
            (λ s. s ∙ sym (eq-eqb (get_or w (length w - 1) 0) a (parts (same_eq w (get_or (names ns more) q [] ++ (a ∷ [])) s)).1))
            (λ s. s ∙ sym (ne_eqb (get_or w (length w - 1) 0) a (λ c. never_both s (ends ∙ ap (λ (i : ℕ). get_or (names ns more) i [] ++ (get_or w (length w - 1) 0 ∷ [])) (sym is) ∙ ap (λ (x : ℕ). get_or (names ns more) q [] ++ (x ∷ [])) c))))
            (cases_Bool (same w (get_or (names ns more) q [] ++ (a ∷ []))))
          where
            never_both : same w (get_or (names ns more) q [] ++ (a ∷ [])) ≡ false → w ≡ get_or (names ns more) q [] ++ (a ∷ []) → ⊥
            never_both f s =
                let t : same w (get_or (names ns more) q [] ++ (a ∷ [])) ≡ true = subst (λ (u : Word). same w u ≡ true) s (same_refl w) in
                let z : ◌≡◌ {A = ℕ} 0 1 = cc in
                omega arith

        go : Dec (q ≡ at) → bit (rec (set ns at marked) q).ends a ≡ member (ps ++ (w ∷ [])) (get_or (names ns more) q [] ++ (a ∷ []))
        go (yes is) =
            ap (λ (k : ℕ). bit (rec (set ns at marked) k).ends a) is ∙ ap (λ (m : Record). bit m.ends a) (get_or-set_same ns at marked blank room)
            ∙ bit-bit_or (rec ns at).ends (2 ^ get_or w (length w - 1) 0) a
            ∙ ap (λ (b : Bool). bit (rec ns at).ends a || b) (bit_pow (get_or w (length w - 1) 0) a ∙ sym (here is))
            ∙ ap (λ (k : ℕ). bit (rec ns k).ends a || same w (get_or (names ns more) q [] ++ (a ∷ []))) (sym is)
            ∙ sym split
        go (no ne) =
            ap (λ (m : Record). bit m.ends a) (get_or-set_other ns at q marked blank ne)
            ∙ sym (or-false (bit (rec ns q).ends a))
            ∙ ap (λ (b : Bool). bit (rec ns q).ends a || b) (sym (not_same w (get_or (names ns more) q [] ++ (a ∷ [])) (λ s. ne (parts s).0)))
            ∙ sym split

    lists-more : length old ≡ length ns → Lists (set ns at (with_end (rec ns at) (2 ^ get_or w (length w - 1) 0))) more (taken + 1) (max longest (length w)) (ps ++ (w ∷ []))
    lists-more len = record {
      names = names_set marked ns more at refl refl ∙ all;
      count = omega (arith, lists.count, length_push ps w);
      extent = ap (λ (n : ℕ). max n (length w)) lists.extent ∙ sym (extent_push ps w);
      solid = λ p h. ⊎_elim (lists.solid p) (λ m. let s = member_one w p m in omega (arith, ap length s)) (member_cases ps (w ∷ []) p h);
      marks = λ far q a h l.
          after (omega (arith, length-set ns at marked)) q a h l ∙ ap (λ (ws : List Word). member (ps ++ (w ∷ [])) (get_or ws q [] ++ (a ∷ []))) (sym (names_set marked ns more at refl refl));
    }

  -- and fin is that tree once the end is marked by the last letter
  module _ (fin : Tree) (a : ℕ) (last : a ≡ get_or w (length w - 1) 0) (to : fin.records.now ≡ set ns at (with_end (rec ns at) (2 ^ a))) (same-many : fin.used ≡ more) where
    is : fin.records.now ≡ set ns at (with_end (rec ns at) (2 ^ get_or w (length w - 1) 0))
    is = to ∙ ap (λ (c : ℕ). set ns at (with_end (rec ns at) (2 ^ c))) last

    pub taken-under : (m : ℕ) → Under m old used → ((i : ℕ) → i < length w → get_or w i 0 < m) → Under m fin.records.now fin.used
    taken-under m u l = subst (λ (n : ℕ). Under m fin.records.now n) (sym same-many) (subst (λ (r : List Record). Under m r more) (sym is) (marked-under m u l))

    pub lists-taken : length ns ≡ length old → (taken longest most : ℕ) → most ≡ max (length w) longest → (ps : List Word) → Lists old used taken longest ps → Lists fin.records.now fin.used (taken + 1) most (ps ++ (w ∷ []))
    lists-taken len taken longest most m ps lists =
        let n : max longest (length w) ≡ most = omega (arith, m) in
        subst (λ (k : ℕ). Lists fin.records.now k (taken + 1) most (ps ++ (w ∷ []))) (sym same-many)
        (subst (λ (k : ℕ). Lists fin.records.now more (taken + 1) k (ps ++ (w ∷ []))) n
        (subst (λ (r : List Record). Lists r more (taken + 1) (max longest (length w)) (ps ++ (w ∷ []))) (sym is) (lists-more taken longest ps lists (sym len))))
