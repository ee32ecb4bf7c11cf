-- One state more is settled: its failure link, its end marks and its words. Assumes nothing.
use Rattle.std.proofs.Common.{◌≡◌, ℕ, ◌+◌, ◌*◌, ◌/◌, ◌<◌, ◌≤◌, min, Bool, true, false, ◌||◌, List, [], ◌∷◌, ◌++◌, length, get_or, drop, set, sym, refl, ap, ◌∙◌, subst, inl, inr, ⊎_elim, arith, length-drop}
use native.Mathlib.Decide.{ℕ_discrete}
use Rattle.std.proofs.lemmas.List.{get_or-set_same, get_or-set_other, length_push}
use Rattle.std.proofs.lemmas.Bool.{cases_lt}
use Rattle.listlaw.specs.Patterns.{Word, member, hit, longest}
use Rattle.listlaw.proofs.States.{states_fronted}
use Rattle.listlaw.proofs.Suffixes.{longest-member, longest-skip, longest_step, longest_short, hit_step}
use Rattle.lists.specs.declared.record.Record.{Record}
use Rattle.lists.specs.Names.{blank, rec, names, Trie, Under}
use Rattle.lists.specs.Lists.{bit, columns}
use Rattle.lists.specs.Links.{tied, Before, Shape, Endings, Others, Planted}
use Rattle.lists.specs.declared.links.Links.{Links}
use Rattle.lists.specs.Linked.{word, Linked}
use Rattle.lists.proofs.Children.{trie as trie_of}
use Rattle.lists.proofs.Bitwise.{bit-bit_or}
use Rattle.lists.proofs.Spelling.{names-first, names_step, names-closed, place_of, child_state, child_none}
use Rattle.lists.proofs.Marking.{names_set, trie_set}
use Rattle.lists.proofs.Linking.{root, root_place, within}

-- a letter leads to the child if there is one, else as before
pub row-right : (ns : List Record) (used : ℕ) (trie : Trie ns used) (q a : ℕ) → q < used → (old words : List ℕ) → Planted ns old words q used a
    → (member (names ns used) (get_or (names ns used) q [] ++ (a ∷ [])) ≡ false → get_or old (a * 512 + q) 0 ≡ longest (names ns used) (get_or (names ns used) q [] ++ (a ∷ [])))
    → get_or words (a * 512 + q) 0 ≡ longest (names ns used) (get_or (names ns used) q [] ++ (a ∷ []))
row-right ns used trie q a lt old words planted base = ⊎_elim
    (λ h.
    let w : Word = get_or (names ns used) q [] ++ (a ∷ []) in
    let at = place_of ns used trie h.0 h.2 w (child_state ns used trie q a h.0 (h.1, h.2, h.3, h.4)) in
    h.5 ∙ sym (longest-member (names ns used) w at.0 ∙ at.1))
    (λ h. h.1 ∙ base (child_none ns used trie q a lt h.0))
    planted

skip_push : (ws : List Word) (w : Word) (a : ℕ) → 1 ≤ length w → member ws (w ++ (a ∷ [])) ≡ false → longest ws (drop 1 w ++ (a ∷ [])) ≡ longest ws (w ++ (a ∷ []))
skip_push ws [] a h m = absurd (omega arith)
skip_push ws (c ∷ t) a h m = sym (longest-skip ws c (t ++ (a ∷ [])) m)

hit_push : (ps : List Word) (w : Word) (a : ℕ) → 1 ≤ length w → hit ps (w ++ (a ∷ [])) ≡ (member ps (w ++ (a ∷ [])) || hit ps (drop 1 w ++ (a ∷ [])))
hit_push ps [] a h = absurd (omega arith)
hit_push ps (c ∷ t) a h = refl

-- the first state
pub root_row : (ns : List Record) (used : ℕ) (trie : Trie ns used) (a : ℕ) (old words : List ℕ) → get_or old (a * 512 + 0) 0 ≡ 0 → Planted ns old words 0 used a → get_or words (a * 512 + 0) 0 ≡ longest (names ns used) (get_or (names ns used) 0 [] ++ (a ∷ []))
root_row ns used trie a old words none planted = row-right ns used trie 0 a trie.0 old words planted (λ m.
    let e = names-first ns used in
    let m' : member (names ns used) (a ∷ []) ≡ false = sym (ap (λ (w : Word). member (names ns used) (w ++ (a ∷ []))) e) ∙ m in
    none ∙ sym (ap (λ (w : Word). longest (names ns used) (w ++ (a ∷ []))) e ∙ longest-skip (names ns used) a [] m' ∙ root_place ns used trie))

module _ (l : Links) (q : ℕ) (pos : 0 < q) (lt : q < l.tree.used) (linked : Linked l (length (word l q)) q)
    (f : ℕ) (link : f ≡ longest (names l.tree.records.now l.tree.used) (drop 1 (word l q))) where
  abbrev ns : List Record
  ns = l.tree.records.now

  abbrev words : List ℕ
  words = l.words.now

  abbrev used : ℕ
  used = l.tree.used

  trie : Trie ns used
  trie = trie_of l.tree

  small : Under (columns words) ns used
  small = l.small

  shape : Shape ns words used (length (get_or (names ns used) q [])) q
  shape = linked

  fits : 1 < used → used ≤ length ns
  fits h = omega (arith, trie.1, trie.5 h)

  some : 1 ≤ length (get_or (names ns used) q [])
  some =
      omega (arith, ap length (names_step ns used q fits pos lt (trie.2 q pos lt)), length_push (get_or (names ns used) (rec ns q).parent []) (rec ns q).letter)

  pub link_inside : f < used
  link_inside = omega (arith, link, within ns used trie (drop 1 (get_or (names ns used) q [])))

  link_short : length (get_or (names ns used) f []) < length (get_or (names ns used) q [])
  link_short =
      omega (arith, ap (λ (i : ℕ). length (get_or (names ns used) i [])) link, longest_short (names ns used) (root ns used trie) (drop 1 (get_or (names ns used) q [])), length-drop 1 (get_or (names ns used) q []), some)

  pub link_other : f ≡ q → ⊥
  link_other e = omega (arith, ap (λ (i : ℕ). length (get_or (names ns used) i [])) e, link_short)

  abbrev new : Record
  new = tied (rec ns q) f (rec ns f).ends

  room : q < length ns
  room = omega (arith, fits (omega arith))

  same : names (set ns q (tied (rec ns q) f (rec ns f).ends)) used ≡ names ns used
  same = names_set new ns used q refl refl

  pub tied_names : names (set ns q (tied (rec ns q) f (rec ns f).ends)) used ≡ names ns used
  tied_names = same

  pub tied-trie : Trie (set ns q (tied (rec ns q) f (rec ns f).ends)) used
  tied-trie = trie_set ns used q new room refl refl refl trie

  kept : (x : ℕ) → (x ≡ q → ⊥) → rec (set ns q new) x ≡ rec ns x
  kept x ne = get_or-set_other ns q x new blank ne

  here : rec (set ns q new) q ≡ new
  here = get_or-set_same ns q new blank room

  abbrev d : ℕ
  d = length (get_or (names ns used) q [])

  earlier : (x : ℕ) → (x ≡ q → ⊥) → Before (names ns used) (length (get_or (names ns used) q [])) (q + 1) x → Before (names ns used) (length (get_or (names ns used) q [])) q x
  earlier x ne b = ⊎_elim inl (λ h. inr (h.0, ⊎_elim (λ k. k) (λ k. absurd (ne (omega (arith, h.1)))) (cases_lt x q))) b

  later : (x : ℕ) → Before (names ns used) (length (get_or (names ns used) q [])) q x → Before (names ns used) (length (get_or (names ns used) q [])) (q + 1) x
  later x b = ⊎_elim inl (λ h. inr (h.0, omega (arith, h.1))) b

  module _ (mid last : List ℕ) (same-long : length last ≡ length words)
      (inherited : (a : ℕ) → a < columns words → get_or mid (a * 512 + q) 0 ≡ get_or words (a * 512 + f) 0) (others : Others words mid q)
      (planted : (a : ℕ) → a < columns words → Planted (set ns q (tied (rec ns q) f (rec ns f).ends)) mid last q used a) (others' : Others mid last q) where
    links : (x : ℕ) → 0 < x → x < used → Before (names ns used) d (q + 1) x → (rec (set ns q new) x).link ≡ longest (names ns used) (drop 1 (get_or (names ns used) x []))
    links x p l b = go (ℕ_discrete x q)
      where
        go : Dec (x ≡ q) → (rec (set ns q new) x).link ≡ longest (names ns used) (drop 1 (get_or (names ns used) x []))
        go (yes e) = ap (λ (i : ℕ). (rec (set ns q new) i).link) e ∙ ap (λ (m : Record). m.link) here ∙ link ∙ ap (λ (i : ℕ). longest (names ns used) (drop 1 (get_or (names ns used) i []))) (sym e)
        go (no ne) = ap (λ (m : Record). m.link) (kept x ne) ∙ shape.links x p l (earlier x ne b)

    own_row : (a : ℕ) → a < columns words → get_or last (a * 512 + q) 0 ≡ longest (names ns used) (get_or (names ns used) q [] ++ (a ∷ []))
    own_row a h =
        let base : member (names ns used) (get_or (names ns used) q [] ++ (a ∷ [])) ≡ false → get_or mid (a * 512 + q) 0 ≡ longest (names ns used) (get_or (names ns used) q [] ++ (a ∷ [])) = λ m.
        inherited a h ∙ shape.rows f a link_inside h (inl link_short)
        ∙ ap (λ (i : ℕ). longest (names ns used) (get_or (names ns used) i [] ++ (a ∷ []))) link
        ∙ sym (longest_step (names ns used) (root ns used trie) (names-closed ns used trie) (drop 1 (get_or (names ns used) q [])) a)
        ∙ skip_push (names ns used) (get_or (names ns used) q []) a some m in
        let right = row-right (set ns q new) used tied-trie q a lt mid last (planted a h) in
        (subst (λ (ws : List Word). (member ws (get_or ws q [] ++ (a ∷ [])) ≡ false → get_or mid (a * 512 + q) 0 ≡ longest ws (get_or ws q [] ++ (a ∷ []))) → get_or last (a * 512 + q) 0 ≡ longest ws (get_or ws q [] ++ (a ∷ []))) same right) base

    rows : (x a : ℕ) → x < used → a < columns words → Before (names ns used) d (q + 1) x → get_or last (a * 512 + x) 0 ≡ longest (names ns used) (get_or (names ns used) x [] ++ (a ∷ []))
    rows x a l h b = go (ℕ_discrete x q)
      where
        inside : x < 512
        inside = omega (arith, trie.1)

        go : Dec (x ≡ q) → get_or last (a * 512 + x) 0 ≡ longest (names ns used) (get_or (names ns used) x [] ++ (a ∷ []))
        go (yes e) = subst (λ (i : ℕ). get_or last (a * 512 + i) 0 ≡ longest (names ns used) (get_or (names ns used) i [] ++ (a ∷ []))) (sym e) (own_row a h)
        go (no ne) = others' a x inside ne ∙ others a x inside ne ∙ shape.rows x a l h (earlier x ne b)

    pub settled : Shape (set ns q (tied (rec ns q) f (rec ns f).ends)) last used (length (get_or (names ns used) q [])) (q + 1)
    settled =
        let cols : columns last ≡ columns words = ap (λ (n : ℕ). min 32 (n / 512)) same-long in
        record {
          links = subst (λ (ws : List Word). (x : ℕ) → 0 < x → x < used → Before ws d (q + 1) x → (rec (set ns q new) x).link ≡ longest ws (drop 1 (get_or ws x []))) (sym same) links;
          rows = subst (λ (ws : List Word). (x a : ℕ) → x < used → a < columns last → Before ws d (q + 1) x → get_or last (a * 512 + x) 0 ≡ longest ws (get_or ws x [] ++ (a ∷ []))) (sym same) (λ x a l h b. rows x a l (omega (arith, cols)) b);
        }

  module _ (ps : List Word) (e : Endings ns used (length (get_or (names ns used) q [])) q ps) where
    fronted : (w : Word) (c : ℕ) → member ps (w ++ (c ∷ [])) ≡ true → member (names ns used) w ≡ true
    fronted w c h = ap (λ (ws : List Word). member ws w) e.spelt ∙ states_fronted ps w c h

    not_yet : Before (names ns used) (length (get_or (names ns used) q [])) q q → ⊥
    not_yet b = ⊎_elim (λ h. omega arith) (λ h. omega (arith, h.1)) b

    own_ends : (a : ℕ) → a < 32 → bit (rec (set ns q new) q).ends a ≡ hit ps (get_or (names ns used) q [] ++ (a ∷ []))
    own_ends a h =
        ap (λ (m : Record). bit m.ends a) here ∙ bit-bit_or (rec ns q).ends (rec ns f).ends a
        ∙ ap (λ (b : Bool). b || bit (rec ns f).ends a) (e.left q a lt h not_yet)
        ∙ ap (λ (b : Bool). member ps (get_or (names ns used) q [] ++ (a ∷ [])) || b)
        (e.done f a link_inside h (inl link_short)
        ∙ ap (λ (i : ℕ). hit ps (get_or (names ns used) i [] ++ (a ∷ []))) link
        ∙ sym (hit_step (names ns used) (root ns used trie) ps fronted (drop 1 (get_or (names ns used) q [])) a))
        ∙ sym (hit_push ps (get_or (names ns used) q []) a some)

    done : (x a : ℕ) → x < used → a < 32 → Before (names ns used) d (q + 1) x → bit (rec (set ns q new) x).ends a ≡ hit ps (get_or (names ns used) x [] ++ (a ∷ []))
    done x a l h b = go (ℕ_discrete x q)
      where
        go : Dec (x ≡ q) → bit (rec (set ns q new) x).ends a ≡ hit ps (get_or (names ns used) x [] ++ (a ∷ []))
        go (yes is) = subst (λ (i : ℕ). bit (rec (set ns q new) i).ends a ≡ hit ps (get_or (names ns used) i [] ++ (a ∷ []))) (sym is) (own_ends a h)
        go (no ne) = ap (λ (m : Record). bit m.ends a) (kept x ne) ∙ e.done x a l h (earlier x ne b)

    left : (x a : ℕ) → x < used → a < 32 → (Before (names ns used) d (q + 1) x → ⊥) → bit (rec (set ns q new) x).ends a ≡ member ps (get_or (names ns used) x [] ++ (a ∷ []))
    left x a l h b =
        let ne : x ≡ q → ⊥ = λ is. b (inr (ap (λ (i : ℕ). length (get_or (names ns used) i [])) is, omega arith)) in
        ap (λ (m : Record). bit m.ends a) (kept x ne) ∙ e.left x a l h (λ k. b (later x k))

    pub settled-ends : Endings (set ns q (tied (rec ns q) f (rec ns f).ends)) used (length (get_or (names ns used) q [])) (q + 1) ps
    settled-ends = record {
      spelt = same ∙ e.spelt;
      solid = e.solid;
      done = subst (λ (ws : List Word). (x a : ℕ) → x < used → a < 32 → Before ws d (q + 1) x → bit (rec (set ns q new) x).ends a ≡ hit ps (get_or ws x [] ++ (a ∷ []))) (sym same) done;
      left = subst (λ (ws : List Word). (x a : ℕ) → x < used → a < 32 → (Before ws d (q + 1) x → ⊥) → bit (rec (set ns q new) x).ends a ≡ member ps (get_or ws x [] ++ (a ∷ []))) (sym same) left;
    }
