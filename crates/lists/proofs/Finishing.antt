-- The tables of a finished list are those of its patterns. Assumes nothing.
use Rattle.std.proofs.Common.{◌≡◌, ℕ, ◌+◌, ◌-◌, ◌*◌, ◌<◌, ◌≤◌, Bool, true, false, cond, ◌||◌, eqb, List, [], ◌∷◌, ◌++◌, map, length, get_or, sym, refl, ap, ◌∙◌, subst, inl, arith}
use mathlib.Core.Logic.{∥∥₁_elim}
use native.Mathlib.Bridge.{le_prop}
use Rattle.std.proofs.lemmas.Nat.{le-div}
use Rattle.std.proofs.lemmas.List.{nil_from_length, length-map}
use Rattle.std.proofs.lemmas.Bool.{lt-ltb, le-ltb, ne_eqb, both_ways}
use Rattle.models.specs.Alphabet.{Alphabet, Numbered}
use Rattle.listlaw.specs.Patterns.{Word, coded, member, states, extent, hit, longest}
use Rattle.listlaw.specs.Table.{Right, Means}
use Rattle.listlaw.proofs.Members.{same_refl, member-at}
use Rattle.listlaw.proofs.States.{states_short, extent_above}
use Rattle.listlaw.proofs.Suffixes.{longest-below}
use Rattle.listlaw.proofs.Laws.{table_means}
use Rattle.lists.specs.declared.record.Record.{Record}
use Rattle.lists.specs.Names.{rec, names}
use Rattle.lists.specs.Lists.{bit, columns, Lists, Held}
use Rattle.lists.specs.Links.{Before, Endings}
use Rattle.lists.specs.Finished.{stop_at, goes_to, listed_model}
use Rattle.lists.specs.declared.builder.Builder.{Builder}
use Rattle.lists.specs.declared.links.Links.{Links}
use Rattle.lists.specs.Linked.{Linked, Ended, Kept}
use Rattle.lists.specs.History.{Holds}
use Rattle.lists.proofs.Children.{trie}
use Rattle.lists.proofs.Spelling.{count}
use Rattle.lists.proofs.Levels.{first_endings}

hit-none : (t : Word) → hit [] t ≡ false
hit-none [] = refl
hit-none (c ∷ t) = hit-none t

-- without patterns there is one state, and nothing stops
pub empty_right : (ns : List Record) (words : List ℕ) → Right [] 1 32 (stop_at ns 32 0) (goes_to words 0)
empty_right ns words = record {
  count = refl;
  solid = λ p h. absurd (both_ways false refl h);
  stops = λ q a l h. ap (λ (b : Bool). cond b false true) (lt-ltb a 32 h) ∙ sym (hit-none (get_or (states []) q [] ++ (a ∷ [])));
  strange = λ q a l h. ap (λ (b : Bool). cond b false true) (le-ltb a 32 h);
  leads = λ q a l h. omega (arith, longest-below (states []) refl (get_or (states []) q [] ++ (a ∷ [])));
}

-- a list of patterns that is not empty has a longest one
extent-some : (ps : List Word) → ((p : Word) → member ps p ≡ true → 1 ≤ length p) → 1 ≤ length ps → 1 ≤ extent ps
extent-some [] solid h = absurd (omega arith)
extent-some (p ∷ ps) solid h =
    let m : member (p ∷ ps) p ≡ true = ap (λ (b : Bool). b || member ps p) (same_refl p) in
    omega (arith, solid p m, extent_above (p ∷ ps) p m)

pub some-longest : (ns : List Record) (used taken longest : ℕ) → Held ns used taken longest → 1 ≤ taken → 1 ≤ longest
some-longest ns used taken longest held h = ∥∥₁_elim held le_prop (λ b. omega (arith, b.1.extent, extent-some b.0 b.1.solid (omega (arith, b.1.count))))

-- the tables as they were and as they are finished
module _ (l done : Links) (taken longest' : ℕ) (some : 1 ≤ taken) (kept : Kept l done) (linked : Linked done longest' 1) (ended : (ps : List Word) → Ended l 1 1 ps → Ended done longest' 1 ps)
    (ps : List Word) (lists : Lists l.tree.records.now l.tree.used taken longest' ps) where
  abbrev ns : List Record
  ns = done.tree.records.now

  abbrev words : List ℕ
  words = done.words.now

  abbrev used : ℕ
  used = done.tree.used

  endings : Endings ns used longest' 1 ps
  endings = ended ps (first_endings l.tree.records.now l.tree.used (trie l.tree) ps lists.names lists.solid (lists.marks l.room))

  spelt : names ns used ≡ states ps
  spelt = kept.1 ∙ lists.names

  long : length (names ns used) ≡ used
  long = count ns used (trie done.tree)

  all : (q : ℕ) → q < used → Before (names ns used) longest' 1 q
  all q l =
      let m : member (states ps) (get_or (names ns used) q []) ≡ true = sym (ap (λ (ws : List Word). member ws (get_or (names ns used) q [])) spelt) ∙ member-at (names ns used) q (omega (arith, long)) in
      inl (omega (arith, states_short ps (get_or (names ns used) q []) m, lists.extent, extent-some ps lists.solid (omega (arith, lists.count))))

  filled : eqb taken 0 ≡ false
  filled = ne_eqb taken 0 (λ e. omega arith)

  pub finished_right : Right ps used (columns words) (stop_at ns (columns words) taken) (goes_to words taken)
  finished_right = record {
    count = sym long ∙ ap length spelt;
    solid = lists.solid;
    stops = λ q a l h.
        ap (λ (b : Bool). cond b (cond (eqb taken 0) false (bit (rec ns q).ends a)) true) (lt-ltb a (columns words) h)
        ∙ ap (λ (b : Bool). cond b false (bit (rec ns q).ends a)) filled
        ∙ endings.done q a l (omega arith) (all q l) ∙ ap (λ (ws : List Word). hit ps (get_or ws q [] ++ (a ∷ []))) spelt;
    strange = λ q a l h. ap (λ (b : Bool). cond b (cond (eqb taken 0) false (bit (rec ns q).ends a)) true) (le-ltb a (columns words) h);
    leads = λ q a l h.
        ap (λ (b : Bool). cond b 0 (get_or words (a * 512 + q) 0)) filled
        ∙ linked.rows q a l h (all q l) ∙ ap (λ (ws : List Word). longest ws (get_or ws q [] ++ (a ∷ []))) spelt;
  }

-- what a list means once it is finished
module _ {K : Type 0} (A : Alphabet K) (numbered : Numbered A) (n m : ℕ) (b : Builder K) (ps : List (List K)) (holds : Holds A n m b ps) where
  pub count_held : b.taken ≡ length ps
  count_held = holds.lists.count ∙ length-map ps (map A.number)

  pub empty_means : b.taken ≡ 0 → (ns : List Record) (words : List ℕ) → Means A (listed_model A.number ns words 1 32 0 0) ps
  empty_means z ns words =
      let e : ps ≡ [] = nil_from_length ps (omega (arith, count_held)) in
      subst (Means A (listed_model A.number ns words 1 32 0 0)) (sym e)
      (table_means A numbered [] 1 32 (stop_at ns 32 0) (goes_to words 0) 0 numbered.few (empty_right ns words) refl)

  pub finished_means : 1 ≤ b.taken → (now : ℕ) (ns : List Record) (words : List ℕ) → length words ≡ length b.words.now → Right (coded A ps) now (columns words) (stop_at ns (columns words) b.taken) (goes_to words b.taken)
      → Means A (listed_model A.number ns words now (columns words) b.taken (b.longest - 1)) ps
  finished_means some now ns words same right =
      let wide = holds.wide (omega (arith, count_held)) in
      let d = le-div A.size (length words) 512 (omega arith) (omega (arith, wide.1, holds.broad)) in
      table_means A numbered ps now (columns words) (stop_at ns (columns words) b.taken) (goes_to words b.taken) (b.longest - 1) (omega (arith, numbered.few)) right (ap (λ (k : ℕ). k - 1) holds.lists.extent)
