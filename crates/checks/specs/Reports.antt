-- What the check program finds, and what it prints of it. Assumes nothing.
--
--   finding m reads bs   what comes of the text bs under the automaton m, unless a byte of it is no letter
--   shown r                 what is printed of a report, line by line
use Rattle.std.specs.Prelude.{ℕ, List, [], ◌∷◌, ◌++◌, length, Some, None, Ok, codes, Option, Result}
use Rattle.std.specs.Option.{unwrap_or}
use Rattle.models.specs.Automaton.{Model}
use Rattle.faults.specs.declared.Fault.{Fault}
use Rattle.pages.specs.Pages.{labelled}
use Rattle.stations.specs.Stations.{bind}
use Rattle.texts.specs.Texts.{checked}
use Rattle.headings.specs.Headings.{heading_lines, automaton_line}
use Rattle.checks.specs.declared.report.Finding.{Finding}
use Rattle.checks.specs.declared.report.Report.{Report}

abbrev pub found : {K : Type 0} → Model K → List ℕ → Option ℕ → Finding
found m bs o = record { states = m.count; memory = m.memory; letters = length bs; stopped = o }

abbrev pub finding : {K : Type 0} → Model K → (ℕ → Option K) → List ℕ → Result Finding Fault
finding m reads bs = bind (checked m reads bs) (λ o. Ok (found m bs o))

-- how far the walk came
abbrev pub walked : Finding → ℕ
walked f = unwrap_or f.stopped f.letters

abbrev pub verdict : Option ℕ → List ℕ
verdict (Some i) = labelled (codes "stopped at ") i (10 ∷ [])
verdict None = codes "passes\n"

abbrev pub text_lines : Finding → List ℕ
text_lines f =
    labelled (codes "text: ") f.letters (codes " letters\n") ++ (labelled (codes "walked: ") (walked f) (codes " letters\n") ++ verdict f.stopped)

abbrev pub shown : Report → List ℕ
shown r =
    heading_lines r.heading.kind r.heading.patterns r.heading.limit ++ (automaton_line r.finding.states r.finding.memory ++ text_lines r.finding)
