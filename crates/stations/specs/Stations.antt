-- The order of the lines of a station file, and its settings. Assumes nothing.
--
--   headed n xs       the kind that the first line names that is no remark, and what is left after it
--   take_line f l     the settings after one more line, and what that line hands on to whoever reads the file
--   ended n xs        the lines after the trace, of which each must be a remark
--   head_left n xs    what is left of the lines xs, of which the first is line n, once the kind is named or a line is refused
--   tail_left n xs    what is left of the lines after the trace, once they are read or one of them is refused
--   onward n r go     a fault is refused at line n; else the work goes on
--   early             a file that ends before its kind or its trace is refused at line 0
--
-- What is left of a file is the number of its next line, and its lines from there on.
use Rattle.std.specs.Prelude.{ℕ, ◌+◌, Bool, true, false, cond, List, [], ◌∷◌, Some, None, Ok, Err, Option, Result, ◌==◌}
use Rattle.faults.specs.declared.Fault.{Fault}
use Rattle.faults.specs.Causes.{broken_file}
use Rattle.files.specs.Lines.{Said, remark, setting, pattern, trace}
use Rattle.files.specs.Fields.{read}
use Rattle.files.specs.declared.lines.Name.TheVariants.{Kind as KindLine, Window as WindowLine, Limit as LimitLine}
use Rattle.files.specs.declared.refusals.Refusal.{Refusal}
use Rattle.stations.specs.declared.Kind.{Kind}
use Rattle.stations.specs.declared.Kind.TheVariants.{Two, Trend, Seepage}
use Rattle.stations.specs.declared.Stage.{Stage}
use Rattle.stations.specs.declared.Stage.TheVariants.{Named, Windowed, Limited, Listing}
use Rattle.stations.specs.declared.Form.{Form}
use Rattle.stations.specs.declared.Part.{Part}
use Rattle.stations.specs.declared.Part.TheVariants.{Pattern, Trace}

abbrev pub Item : Type 0
Item = Result Said Fault

abbrev pub early : Refusal
early = record { fault = broken_file; line = 0 }

abbrev pub bind : {A B : Type 0} → Result A Fault → (A → Result B Fault) → Result B Fault
bind (Ok x) f = f x
bind (Err e) f = Err e

abbrev pub onward : {A B : Type 0} → ℕ → Result A Fault → (A → Result B Refusal) → Result B Refusal
onward n (Ok x) go = go x
onward n (Err f) go = Err (record { fault = f; line = n })

-- what is read, or that the line breaks the rules
abbrev pub well_formed : {A : Type 0} → Option A → Result A Fault
well_formed (Some x) = Ok x
well_formed None = Err broken_file

-- `A`, `P` or `Q`
abbrev pub letter_kind : ℕ → Option Kind
letter_kind b = cond (b == 65) (Some Two) (cond (b == 80) (Some Trend) (cond (b == 81) (Some Seepage) None))

abbrev pub kind_named : List ℕ → Option Kind
kind_named [] = None
kind_named (b ∷ []) = letter_kind b
kind_named (b ∷ c ∷ bs) = None

-- before the kind is named: a remark, or the kind
abbrev pub first_line : Said → Result (Option Kind) Fault
first_line (remark bs) = Ok None
first_line (setting KindLine bs) = bind (well_formed (kind_named bs)) (λ k. Ok (Some k))
first_line (setting WindowLine bs) = Err broken_file
first_line (setting LimitLine bs) = Err broken_file
first_line (pattern bs) = Err broken_file
first_line (trace bs) = Err broken_file

abbrev pub kind_or : Option Kind → ℕ → List Item → Result (Kind × (ℕ × List Item)) Refusal → Result (Kind × (ℕ × List Item)) Refusal
kind_or (Some k) n xs r = Ok (k, (n, xs))
kind_or None n xs r = r

abbrev pub headed : ℕ → List Item → Result (Kind × (ℕ × List Item)) Refusal
headed n [] = Err early
headed n (x ∷ xs) = onward n (bind x first_line) (λ o. kind_or o (n + 1) xs (headed (n + 1) xs))

-- what is left after a line: what follows it, or less where the line is a remark
abbrev pub unless_remark : Result (Option Kind) Fault → ℕ × List Item → ℕ × List Item → ℕ × List Item
unless_remark (Ok (Some k)) here less = here
unless_remark (Ok None) here less = less
unless_remark (Err f) here less = here

abbrev pub head_left : ℕ → List Item → ℕ × List Item
head_left n [] = (n, [])
head_left n (x ∷ xs) = unless_remark (bind x first_line) (n + 1, xs) (head_left (n + 1) xs)

-- what a line hands on
pub data Handed : Type 0 where
  nothing : Handed
  a_pattern : List ℕ → Handed
  the_trace : List ℕ → Handed

abbrev pub handed : Option Part → Handed
handed None = nothing
handed (Some (Pattern x)) = a_pattern x.now
handed (Some (Trace x)) = the_trace x.now

-- `k` comes right after the kind, `r` before the patterns, and each at most once
abbrev pub before_window : Stage → Bool
before_window Named = true
before_window Windowed = false
before_window Limited = false
before_window Listing = false

abbrev pub before_limit : Stage → Bool
before_limit Named = true
before_limit Windowed = true
before_limit Limited = false
before_limit Listing = false

abbrev pub with_window : Form → ℕ → Form × Handed
with_window f n = (record { stage = Windowed; window = Some n; limit = f.limit }, nothing)

abbrev pub with_limit : Form → ℕ → Form × Handed
with_limit f n = (record { stage = Limited; window = f.window; limit = Some n }, nothing)

abbrev pub take_line : Form → Said → Result (Form × Handed) Fault
take_line f (remark bs) = Ok (f, nothing)
take_line f (setting KindLine bs) = Err broken_file
take_line f (setting WindowLine bs) = cond (before_window f.stage) (bind (well_formed (read 4 bs)) (λ n. Ok (with_window f n))) (Err broken_file)
take_line f (setting LimitLine bs) = cond (before_limit f.stage) (bind (well_formed (read 4 bs)) (λ n. Ok (with_limit f n))) (Err broken_file)
take_line f (pattern bs) = Ok (record { stage = Listing; window = f.window; limit = f.limit }, a_pattern bs)
take_line f (trace bs) = Ok (f, the_trace bs)

abbrev pub last_line : Said → Result (Unit {0}) Fault
last_line (remark bs) = Ok tt
last_line (setting s bs) = Err broken_file
last_line (pattern bs) = Err broken_file
last_line (trace bs) = Err broken_file

abbrev pub ended : ℕ → List Item → Result (Unit {0}) Refusal
ended n [] = Ok tt
ended n (x ∷ xs) = onward n (bind x last_line) (λ _. ended (n + 1) xs)

-- what is left after a line: what follows it where the line is refused, or less
abbrev pub if_refused : {A : Type 0} → Result A Fault → ℕ × List Item → ℕ × List Item → ℕ × List Item
if_refused (Ok x) here less = less
if_refused (Err f) here less = here

abbrev pub tail_left : ℕ → List Item → ℕ × List Item
tail_left n [] = (n, [])
tail_left n (x ∷ xs) = if_refused (bind x last_line) (n + 1, xs) (tail_left (n + 1) xs)
