-- Tables that stand in a struct while they are lent. Assumes nothing.
--
--   SameLetters p q, SameList p q   q lends the same slices as p, as long as they were, whatever they hold
use Rattle.std.specs.Prelude.{◌≡◌, length}
use Rattle.lent.specs.declared.LentLetters.{LentLetters}
use Rattle.lent.specs.declared.LentList.{LentList}

abbrev pub SameLetters : LentLetters → LentLetters → Type 0
SameLetters p q =
    (q.two.ghost_name ≡ p.two.ghost_name)
    × (q.trend.ghost_name ≡ p.trend.ghost_name)
    × (q.seepage.ghost_name ≡ p.seepage.ghost_name)
    × (length q.two.now ≡ length p.two.now)
    × (length q.trend.now ≡ length p.trend.now)
    × (length q.seepage.now ≡ length p.seepage.now)

abbrev pub SameList : LentList → LentList → Type 0
SameList p q =
    (q.records.ghost_name ≡ p.records.ghost_name)
    × (q.words.ghost_name ≡ p.words.ghost_name)
    × (length q.records.now ≡ length p.records.now)
    × (length q.words.now ≡ length p.words.now)
