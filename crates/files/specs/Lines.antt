-- The lines of a file. Assumes nothing.
--
--   lines bs    the bytes of each line: a line ends at a newline or at the end of the file, and a last newline starts no line
--   Said        what a line is, with its content, the bytes after its first
--   said l      what the line l is, or that it breaks the line rules
--   items bs    the lines of a file, each as what it is
--   meant x     what the code's line says, its parts of the input read as bytes
use Rattle.std.specs.Prelude.{ℕ, cond, List, [], ◌∷◌, map, Ok, Err, Result, ◌==◌}
use Rattle.faults.specs.declared.Fault.{Fault}
use Rattle.faults.specs.Causes.{broken_file}
use Rattle.files.specs.declared.lines.Line.{Line}
use Rattle.files.specs.declared.lines.Line.TheVariants.{Remark, Setting, Pattern, Trace}
use Rattle.files.specs.declared.lines.Name.{Name}
use Rattle.files.specs.declared.lines.Name.TheVariants.{Kind, Window, Limit}

-- b in front of the first line
abbrev pub longer : ℕ → List (List ℕ) → List (List ℕ)
longer b [] = (b ∷ []) ∷ []
longer b (l ∷ ls) = (b ∷ l) ∷ ls

abbrev pub lines : List ℕ → List (List ℕ)
lines [] = []
lines (b ∷ bs) = cond (b == 10) ([] ∷ lines bs) (longer b (lines bs))

pub data Said : Type 0 where
  remark : List ℕ → Said
  setting : Name → List ℕ → Said
  pattern : List ℕ → Said
  trace : List ℕ → Said

-- a line that begins with b: `;` `L` `k` `r` `!` `>`
abbrev pub begun : ℕ → List ℕ → Result Said Fault
begun b bs =
    cond (b == 59) (Ok (remark bs)) (cond (b == 76) (Ok (setting Kind bs)) (cond (b == 107) (Ok (setting Window bs)) (cond (b == 114) (Ok (setting Limit bs)) (cond (b == 33) (Ok (pattern bs)) (cond (b == 62) (Ok (trace bs)) (Err broken_file))))))

-- an empty line breaks the rules
abbrev pub said : List ℕ → Result Said Fault
said [] = Err broken_file
said (b ∷ bs) = begun b bs

abbrev pub items : List ℕ → List (Result Said Fault)
items bs = map said (lines bs)

abbrev pub meant_line : Line → Said
meant_line (Remark x) = remark x.now
meant_line (Setting s x) = setting s x.now
meant_line (Pattern x) = pattern x.now
meant_line (Trace x) = trace x.now

abbrev pub meant : Result Line Fault → Result Said Fault
meant (Ok l) = Ok (meant_line l)
meant (Err f) = Err f
