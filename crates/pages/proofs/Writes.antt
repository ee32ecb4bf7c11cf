-- One piece of writing after another. Assumes nothing.
use Rattle.std.proofs.Common.{◌≡◌, ℕ, List, ◌++◌, ap, ◌∙◌, subst, append_assoc}
use Rattle.pages.specs.declared.Page.{Page}
use Rattle.pages.specs.Pages.{Wrote, Holds}

-- writing b after a is writing c, which is a and then b
pub wrote_then : {p q r : Page} {a b : List ℕ} (c : List ℕ) → a ++ b ≡ c → Wrote p q a → Wrote q r b → Wrote p r c
wrote_then {p} {q} {r} {a} {b} c e u v = record {
  text = λ xs ys h. subst (λ l. Holds r l ys) (append_assoc xs a b ∙ ap (λ l. xs ++ l) e) (v.text (xs ++ a) ys (u.text xs ys h));
  page = v.page ∙ u.page;
}

pub wrote_is : {p q : Page} {a : List ℕ} (b : List ℕ) → a ≡ b → Wrote p q a → Wrote p q b
wrote_is {p} {q} b e w = subst (Wrote p q) e w
