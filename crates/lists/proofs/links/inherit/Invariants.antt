use Rattle.std.proofs.Common.{◌≡◌, ℕ, ◌+◌, ◌*◌, ◌<◌, get_or}
use Rattle.lists.specs.Links.{Others}
use Rattle.lists.proofs.links.inherit.Given as goal

-- the letters so far lead as they do from the link
abbrev pub invariant-loop-a : goal.invariant-loop-a
invariant-loop-a l =
    ((b : ℕ) → b < l.a → get_or l.words (b * 512 + l.q) 0 ≡ get_or l.initial.words (b * 512 + l.link) 0)
    × Others l.initial.words l.words l.q
