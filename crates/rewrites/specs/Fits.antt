-- Sheets that fit in memory, for the letters of a kind T. Assumes nothing.
--
--   Roomy R        a value of the type R takes fewer than 2 ^ 63 bytes; a generic function that makes a sheet must know it
--   alone T v g    the sheet on a list
--   paired T v g   the sheet on the pair of a list and a run automaton
--
-- v is what the automaton declares as its meaning, and g what the kind T declares of its letters; no size depends on them.
use Rattle.std.specs.Prelude.{◌^◌, ◌<◌, []}
use denote.Param.{layout}
use Rattle.std.specs.Borrow.{RattleType}
use denote.Ref.{NamedLft}
use mir.Syntax.{static}
use prog.Memory.{size}
use Rattle.automata.specs.declared.Automaton
use Rattle.letters.specs.declared.kind.Letter
use Rattle.lists.specs.contracts.listed.Listed.{the_row as listed_row}
use Rattle.pairs.specs.contracts.Pair.{the_row as pair_row}
use Rattle.runs.specs.contracts.Run.{the_row as run_row}
use Rattle.sheets.specs.contracts.sheet.Sheet.{the_row as sheet_row}

abbrev pub Roomy : RattleType → Type 0
Roomy R = size (layout R) < 2 ^ 63

-- a size is the same whatever the lifetime
abbrev lifetime : NamedLft
lifetime = record { mir = static; lft = [] }

abbrev pub alone : (T : RattleType) → Automaton.Ghosts (listed_row lifetime T).Denot T.Denot → Letter.Ghosts T.Denot → RattleType
alone T v g = sheet_row (listed_row lifetime T) T v g

abbrev pub paired : (T : RattleType) → Automaton.Ghosts (pair_row (listed_row lifetime T) (run_row T)).Denot T.Denot → Letter.Ghosts T.Denot → RattleType
paired T v g = sheet_row (pair_row (listed_row lifetime T) (run_row T)) T v g
