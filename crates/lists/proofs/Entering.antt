-- One state more, and the prefixes of a word one by one. Assumes nothing.
use Rattle.std.proofs.Common.{◌≡◌, ℕ, ◌+◌, ◌-◌, ◌<◌, ◌≤◌, true, false, ◌≢◌, ◌⊎◌, List, [], ◌∷◌, ◌++◌, length, get_or, take, set, sym, refl, ap, ◌∙◌, subst, inl, inr, ⊎_elim, arith, length-set}
use Rattle.std.proofs.lemmas.List.{take_more, get_or-take, get_or_append_left, get_or_push, get_or-set_same, get_or-set_other, length_push, length-take-le}
use Rattle.std.proofs.lemmas.Bool.{cases_lt}
use Rattle.listlaw.specs.Patterns.{Word, member, gather, fronts, Places, with}
use Rattle.listlaw.proofs.Gathering.{places_push, with_old, with-new}
use Rattle.listlaw.proofs.States.{gather-more, gather_fewer}
use Rattle.lists.specs.declared.record.Record.{Record}
use Rattle.lists.specs.Names.{blank, rec, names, Below, Lengths, Trie, Under, Fresh, Reached, Entered}
use Rattle.lists.specs.declared.tree.Tree.{Tree}
use Rattle.lists.specs.declared.word.Word.{Word as Given}
use Rattle.lists.proofs.Children.{trie as trie_of}
use Rattle.lists.proofs.Spelling.{count as count_of, names_push, names-first, place_of, child_state, child_none}

module _ (t : Tree) (under a : ℕ) where
  abbrev ns : List Record
  ns = t.records.now

  abbrev used : ℕ
  used = t.used

  trie : Trie ns used
  trie = trie_of t

  pub reach_old : (j : ℕ) → (0 < j) × (j < used) × ((rec ns j).parent ≡ under) × ((rec ns j).letter ≡ a) → Reached ns ns used under a j used
  reach_old j h =
      let is = child_state ns used trie under a j h in
      record {
        inside = h.1;
        word = is;
        states = sym (with_old (names ns used) (get_or (names ns used) under [] ++ (a ∷ [])) (place_of ns used trie j h.1 (get_or (names ns used) under [] ++ (a ∷ [])) is).0);
        letters = λ n u l. u;
        fresh = (λ i h. refl, λ i ge lt. absurd (omega arith));
        grows = omega arith;
      }

  pub reach_room : under < used → ((j : ℕ) → 0 < j → j < used → (rec ns j).parent ≡ under → (rec ns j).letter ≡ a → ⊥) → (member (names ns used) (get_or (names ns used) under [] ++ (a ∷ [])) ≡ false → used < 512) → used < 512
  reach_room lt none space = space (child_none ns used trie under a lt none)

  module _ (lt : under < used) (none : (j : ℕ) → 0 < j → j < used → (rec ns j).parent ≡ under → (rec ns j).letter ≡ a → ⊥) (space : member (names ns used) (get_or (names ns used) under [] ++ (a ∷ [])) ≡ false → used < 512) (far : 512 ≤ length ns) (n : Record)
      (up : n.parent ≡ under) (by : n.letter ≡ a) (deep : n.length ≡ length (get_or (names ns used) under []) + 1) (bare : n.ends ≡ 0) where
    new : member (names ns used) (get_or (names ns used) under [] ++ (a ∷ [])) ≡ false
    new = child_none ns used trie under a lt none

    room : used < 512
    room = reach_room lt none space

    more : used < length ns
    more = omega (arith, room)

    pushed : names (set ns used n) (used + 1) ≡ names ns used ++ ((get_or (names ns used) under [] ++ (a ∷ [])) ∷ [])
    pushed = names_push ns used n trie.0 more ∙ ap (λ (w : Word). names ns used ++ (w ∷ [])) (ap (λ (i : ℕ). get_or (names ns used) i [] ++ (n.letter ∷ [])) up ∙ ap (λ (c : ℕ). get_or (names ns used) under [] ++ (c ∷ [])) by)

    long : length (names ns used) ≡ used
    long = count_of ns used trie

    kept : (i : ℕ) → i < used → rec (set ns used n) i ≡ rec ns i
    kept i h = let ne : i ≢ used = (λ e. omega arith) in get_or-set_other ns used i n blank ne

    here : rec (set ns used n) used ≡ n
    here = get_or-set_same ns used n blank more

    at_new : (i : ℕ) → i < used + 1 → (i < used) ⊎ (i ≡ used)
    at_new i h = ⊎_elim inl (λ g. inr (omega arith)) (cases_lt i used)

    word_kept : (i : ℕ) → i < used → get_or (names (set ns used n) (used + 1)) i [] ≡ get_or (names ns used) i []
    word_kept i h = ap (λ (l : List Word). get_or l i []) pushed ∙ get_or_append_left (names ns used) ((get_or (names ns used) under [] ++ (a ∷ [])) ∷ []) [] i (omega (arith, long))

    word-new : get_or (names (set ns used n) (used + 1)) used [] ≡ get_or (names ns used) under [] ++ (a ∷ [])
    word-new = ap (λ (l : List Word). get_or l used []) pushed ∙ get_or_push (names ns used) (get_or (names ns used) under [] ++ (a ∷ [])) [] used long

    below : Below (set ns used n) (used + 1)
    below i pos h = ⊎_elim
        (λ l. omega (arith, ap (λ (m : Record). m.parent) (kept i l), trie.2 i pos l))
        (λ e. omega (arith, ap (λ (k : ℕ). (rec (set ns used n) k).parent) e, ap (λ (m : Record). m.parent) here))
        (at_new i h)

    lengths : Lengths (set ns used n) (used + 1)
    lengths i pos h = ⊎_elim
        (λ l. ap (λ (m : Record). m.length) (kept i l) ∙ trie.3 i pos l ∙ ap length (sym (word_kept i l)))
        (λ e.
        let it : (rec (set ns used n) used).length ≡ length (get_or (names (set ns used n) (used + 1)) used []) =
        ap (λ (m : Record). m.length) here ∙ deep ∙ sym (ap length word-new ∙ length_push (get_or (names ns used) under []) a) in
        subst (λ (k : ℕ). (rec (set ns used n) k).length ≡ length (get_or (names (set ns used n) (used + 1)) k [])) (sym e) it)
        (at_new i h)

    letters : (m : ℕ) → Under m ns used → a < m → Under m (set ns used n) (used + 1)
    letters m u small i pos h = ⊎_elim
        (λ l. omega (arith, ap (λ (m : Record). m.letter) (kept i l), u i pos l))
        (λ e. omega (arith, ap (λ (k : ℕ). (rec (set ns used n) k).letter) e, ap (λ (m : Record). m.letter) here))
        (at_new i h)

    pub reach_trie : Trie (set ns used n) (used + 1)
    reach_trie = (omega arith, omega (arith, room), below, lengths, subst Places (sym pushed) (places_push (names ns used) (get_or (names ns used) under [] ++ (a ∷ [])) trie.4 new), λ h. omega (arith, length-set ns used n))

    pub reach_new : Reached ns (set ns used n) used under a used (used + 1)
    reach_new = record {
      inside = omega arith;
      word = word-new;
      states = pushed ∙ sym (with-new (names ns used) (get_or (names ns used) under [] ++ (a ∷ [])) new);
      letters = letters;
      fresh = (kept, λ i ge l. let e : i ≡ used = omega arith in ap (λ (k : ℕ). (rec (set ns used n) k).ends) e ∙ ap (λ (m : Record). m.ends) here ∙ bare);
      grows = omega arith;
    }

-- the letters of a word but the last
module _ (w front : Word) (is : front ≡ take (length w - 1) w) where
  pub front_long : length front ≡ length w - 1
  front_long = ap length is ∙ length-take-le (length w - 1) w (omega arith)

  pub front_at : (k : ℕ) → k + 1 < length w → get_or front k 0 ≡ get_or w k 0
  front_at k lt = ap (λ (v : Word). get_or v k 0) is ∙ get_or-take (length w - 1) w k 0 (omega arith)

  pub front_push : (k : ℕ) → k + 1 < length w → {v : Word} → v ≡ take k w → v ++ (get_or front k 0 ∷ []) ≡ take (k + 1) w
  front_push k lt {v} e = ap (λ (u : Word). u ++ (get_or front k 0 ∷ [])) e ∙ ap (λ (c : ℕ). take k w ++ (c ∷ [])) (front_at k lt) ∙ sym (take_more w k 0 (omega arith))

fresh-more : (old ns more : List Record) (used count last : ℕ) → used ≤ count → Fresh old ns used count → Fresh ns more count last → Fresh old more used last
fresh-more old ns more used count last le a b = (
  λ i h. b.0 i (omega arith) ∙ a.0 i h,
  λ i ge h. ⊎_elim (λ l. ap (λ (m : Record). m.ends) (b.0 i l) ∙ a.1 i ge l) (λ g. b.1 i g h) (cases_lt i count),
)

module _ (o : Tree) (word : Given) where
  abbrev old : List Record
  old = o.records.now

  abbrev before : ℕ
  before = o.used

  abbrev w : Word
  w = word.letters.now

  known : Trie old before
  known = trie_of o

  root : member (names old before) [] ≡ true
  root = (place_of old before known 0 known.0 [] (names-first old before)).0

  pub none-known : gather (names old before) (fronts (take (0 + 1) w)) ≡ names old before
  none-known = gather-more (names old before) w 0 word.some ∙ with_old (names old before) [] root

  pub entered_none : Entered old old before w 0 0 before
  entered_none = record {
    inside = known.0;
    word = names-first old before;
    states = sym none-known;
    letters = λ n u l. u;
    fresh = (λ i h. refl, λ i ge h. absurd (omega arith));
    grows = omega arith;
  }

  -- the next prefix
  module _ (s : Tree) (k under : ℕ) (e : Entered o.records.now s.records.now o.used word.letters.now k under s.used) (lt : k + 1 < length word.letters.now) where
    abbrev mid : List Record
    mid = s.records.now

    abbrev count : ℕ
    count = s.used

    pub next_word : get_or (names mid count) under [] ++ (get_or w k 0 ∷ []) ≡ take (k + 1) w
    next_word = ap (λ (v : Word). v ++ (get_or w k 0 ∷ [])) e.word ∙ sym (take_more w k 0 (omega arith))

    gathered : with (names mid count) (get_or (names mid count) under [] ++ (get_or w k 0 ∷ [])) ≡ gather (names old before) (fronts (take (k + 1 + 1) w))
    gathered = ap (with (names mid count)) next_word ∙ ap (λ (l : List Word). with l (take (k + 1) w)) e.states ∙ sym (gather-more (names old before) w (k + 1) lt)

    pub next-room : length (gather (names old before) (fronts w)) ≤ 512 → member (names mid count) (get_or (names mid count) under [] ++ (get_or w k 0 ∷ [])) ≡ false → count < 512
    next-room room new =
        let long = count_of mid count (trie_of s) in
        let v : Word = get_or (names mid count) under [] ++ (get_or w k 0 ∷ []) in
        omega (arith, room, long, ap length (sym (with-new (names mid count) v new) ∙ gathered), length_push (names mid count) v, gather_fewer (names old before) w (k + 1 + 1) (length w - (k + 1 + 1)) (omega arith))

    pub entered_more : (more : List Record) (at last : ℕ) → Reached mid more count under (get_or w k 0) at last → Entered old more before w (k + 1) at last
    entered_more more at last r = record {
      inside = r.inside;
      word = r.word ∙ next_word;
      states = r.states ∙ gathered;
      letters = λ n u l. r.letters n (e.letters n u l) (l k (omega arith));
      fresh = fresh-more old mid more before count last e.grows e.fresh r.fresh;
      grows = omega (arith, e.grows, r.grows);
    }
