-- The contexts on a trace line. Assumes nothing.
--
--   gap bs                   the place of the first `?`, or None
--   context reads from bs    the letters that bs read as, or that a byte is no letter: its place, counted from `from`
--   contexts reads room bs   the letters before and after the first `?`, for a table with room for so many: a content
--                            with no `?` breaks the rules of the file, then the table can be too short, and then the
--                            first byte that is no letter is refused
use Rattle.std.specs.Prelude.{ℕ, ◌+◌, ◌-◌, cond, List, length, take, drop, Some, None, Ok, Err, Option, Result, ◌==◌, nat_lt}
use Rattle.std.specs.List.{position}
use Rattle.faults.specs.declared.Fault.{Fault}
use Rattle.faults.specs.Causes.{no_letter, short_work, broken_file}
use Rattle.texts.specs.Texts.{stray, spelled}
use Rattle.stations.specs.Stations.{bind}

abbrev pub gap : List ℕ → Option ℕ
gap bs = position (λ b. b == 63) bs

abbrev pub unless_at : {T : Type 0} → ℕ → Option ℕ → T → Result T Fault
unless_at from None x = Ok x
unless_at from (Some i) x = Err (no_letter (from + i))

abbrev pub context : {K : Type 0} → (ℕ → Option K) → ℕ → List ℕ → Result (List K) Fault
context reads from bs = unless_at from (stray reads bs) (spelled reads bs)

-- the contexts of a content whose first `?` is at the place i
abbrev pub both : {K : Type 0} → (ℕ → Option K) → List ℕ → ℕ → Result (List K × List K) Fault
both reads bs i = bind (context reads 0 (take i bs)) (λ u. bind (context reads (i + 1) (drop (i + 1) bs)) (λ v. Ok (u, v)))

abbrev pub contexts_at : {K : Type 0} → (ℕ → Option K) → ℕ → List ℕ → Option ℕ → Result (List K × List K) Fault
contexts_at reads room bs None = Err broken_file
contexts_at reads room bs (Some i) = cond (nat_lt room (length bs - 1)) (Err (short_work (length bs - 1))) (both reads bs i)

abbrev pub contexts : {K : Type 0} → (ℕ → Option K) → ℕ → List ℕ → Result (List K × List K) Fault
contexts reads room bs = contexts_at reads room bs (gap bs)
