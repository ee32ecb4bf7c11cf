-- Failure links and what they bring. Assumes nothing.
use Rattle.std.proofs.Common.{◌≡◌, ℕ, ◌+◌, ◌*◌, ◌<◌, ◌≤◌, true, List, [], ◌∷◌, ◌++◌, length, get_or, drop, sym, ap, ◌∙◌, inl, ⊎_elim, arith, length-drop}
use Rattle.std.proofs.lemmas.List.{length_push, drop-append-le}
use Rattle.std.proofs.lemmas.Bool.{cases_lt}
use Rattle.listlaw.specs.Patterns.{Word, member, longest}
use Rattle.listlaw.proofs.Suffixes.{longest-below, longest_step, longest_short}
use Rattle.lists.specs.declared.record.Record.{Record}
use Rattle.lists.specs.Names.{rec, names, Trie, Under}
use Rattle.lists.specs.Lists.{columns}
use Rattle.lists.specs.Links.{Shape}
use Rattle.lists.specs.declared.links.Links.{Links}
use Rattle.lists.specs.Linked.{word, Linked}
use Rattle.lists.proofs.Children.{trie as trie_of}
use Rattle.lists.proofs.Spelling.{names-first, names_step, count, names-closed, place_of}

module _ (ns : List Record) (used : ℕ) (trie : Trie ns used) where
  pub root : member (names ns used) [] ≡ true
  root = (place_of ns used trie 0 trie.0 [] (names-first ns used)).0

  pub root_place : longest (names ns used) [] ≡ 0
  root_place = (place_of ns used trie 0 trie.0 [] (names-first ns used)).1

  pub within : (t : Word) → longest (names ns used) t < used
  within t = omega (arith, longest-below (names ns used) root t, count ns used trie)

module _ (l : Links) (q : ℕ) (pos : 0 < q) (lt : q < l.tree.used) (linked : Linked l (length (word l q)) q) where
  abbrev ns : List Record
  ns = l.tree.records.now

  abbrev words : List ℕ
  words = l.words.now

  abbrev used : ℕ
  used = l.tree.used

  trie : Trie ns used
  trie = trie_of l.tree

  small : Under (columns words) ns used
  small = l.small

  shape : Shape ns words used (length (get_or (names ns used) q [])) q
  shape = linked

  fits : 1 < used → used ≤ length ns
  fits h = omega (arith, trie.1, trie.5 h)

  spelt : get_or (names ns used) q [] ≡ get_or (names ns used) (rec ns q).parent [] ++ ((rec ns q).letter ∷ [])
  spelt = names_step ns used q fits pos lt (trie.2 q pos lt)

  depth : length (get_or (names ns used) q []) ≡ length (get_or (names ns used) (rec ns q).parent []) + 1
  depth = ap length spelt ∙ length_push (get_or (names ns used) (rec ns q).parent []) (rec ns q).letter

  up : (rec ns q).parent < used
  up = omega (arith, trie.2 q pos lt)

  -- under the first state
  pub link_first : (rec ns q).parent ≡ 0 → 0 ≡ longest (names ns used) (drop 1 (get_or (names ns used) q []))
  link_first z =
      let e : get_or (names ns used) (rec ns q).parent [] ≡ [] = ap (λ (i : ℕ). get_or (names ns used) i []) z ∙ names-first ns used in
      sym (ap (λ (w : Word). longest (names ns used) (drop 1 w)) (spelt ∙ ap (λ (w : Word). w ++ ((rec ns q).letter ∷ [])) e) ∙ root_place ns used trie)

  module _ (other : (rec ns q).parent ≡ 0 → ⊥) where
    parent_pos : 0 < (rec ns q).parent
    parent_pos = ⊎_elim (λ h. h) (λ h. absurd (other (omega arith))) (cases_lt 0 (rec ns q).parent)

    parent_link : (rec ns (rec ns q).parent).link ≡ longest (names ns used) (drop 1 (get_or (names ns used) (rec ns q).parent []))
    parent_link = shape.links (rec ns q).parent parent_pos up (inl (omega (arith, depth)))

    parent-some : 1 ≤ length (get_or (names ns used) (rec ns q).parent [])
    parent-some =
        let b = trie.2 (rec ns q).parent parent_pos up in
        omega (arith, ap length (names_step ns used (rec ns q).parent fits parent_pos up b), length_push (get_or (names ns used) (rec ns (rec ns q).parent).parent []) (rec ns (rec ns q).parent).letter)

    pub under-inside : (rec ns (rec ns q).parent).link < used
    under-inside = omega (arith, parent_link, within ns used trie (drop 1 (get_or (names ns used) (rec ns q).parent [])))

    under_short : length (get_or (names ns used) (rec ns (rec ns q).parent).link []) < length (get_or (names ns used) q [])
    under_short =
        let s = longest_short (names ns used) (root ns used trie) (drop 1 (get_or (names ns used) (rec ns q).parent [])) in
        omega (arith, ap (λ (i : ℕ). length (get_or (names ns used) i [])) parent_link, s, length-drop 1 (get_or (names ns used) (rec ns q).parent []), depth)

    -- the longest proper suffix of the parent that is a state, and the letter
    pub link_next : get_or words ((rec ns q).letter * 512 + (rec ns (rec ns q).parent).link) 0 ≡ longest (names ns used) (drop 1 (get_or (names ns used) q []))
    link_next =
        shape.rows (rec ns (rec ns q).parent).link (rec ns q).letter under-inside (small q pos lt) (inl under_short)
        ∙ ap (λ (i : ℕ). longest (names ns used) (get_or (names ns used) i [] ++ ((rec ns q).letter ∷ []))) parent_link
        ∙ sym (longest_step (names ns used) (root ns used trie) (names-closed ns used trie) (drop 1 (get_or (names ns used) (rec ns q).parent [])) (rec ns q).letter)
        ∙ ap (longest (names ns used)) (sym (drop-append-le 1 (get_or (names ns used) (rec ns q).parent []) ((rec ns q).letter ∷ []) parent-some) ∙ ap (drop 1) (sym spelt))
