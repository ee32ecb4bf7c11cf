-- Every cause for which a call is refused, in the words in which contracts speak of it, and its number, its layer and its
-- place. A new cause is a new case, and a line in each table here.
--
--   number_of f   layer_of f   place_of f   the number, the layer and the place of a fault
--   layer_byte f                            the byte that stands for its layer in a refusal line
use Rattle.std.specs.Prelude.{ℕ}
use Rattle.faults.specs.declared.Fault.{Fault}
use Rattle.faults.specs.declared.Fault.TheVariants.{NoLetter, BadLength, FullList, ShortTables, ShortWork, BadLimit, LargePair, BadWindow, LongMemory, StoppedContext, NoString, ShortText, LongContext, FullSheet, BrokenFile}
use Rattle.faults.specs.declared.Layer.{Layer}
use Rattle.faults.specs.declared.Layer.TheVariants.{Letter, List, Automaton, Join, Sheet, File}

-- a byte that is no letter, nor `?` in a trace: its place in the pattern, text or trace
abbrev pub no_letter : ℕ → Fault
no_letter i = NoLetter i

-- a pattern of 0 or over 12 letters: its length
abbrev pub bad_length : ℕ → Fault
bad_length n = BadLength n

-- a 65th pattern, or a 513th state: the patterns held
abbrev pub full_list : ℕ → Fault
full_list n = FullList n

-- the list's tables are too short: the records that a table must have
abbrev pub short_tables : Fault
short_tables = ShortTables

-- the work table is too short: the words needed
abbrev pub short_work : ℕ → Fault
short_work n = ShortWork n

-- a run limit that is not 1 to 8: the limit
abbrev pub bad_limit : ℕ → Fault
bad_limit r = BadLimit r

-- a pair of over 4,096 states: the product
abbrev pub large_pair : ℕ → Fault
large_pair n = LargePair n

-- a window length that is not 2 to 12: the length
abbrev pub bad_window : ℕ → Fault
bad_window k = BadWindow k

-- a memory above the window length: the memory
abbrev pub long_memory : ℕ → Fault
long_memory m = LongMemory m

-- a context that does not pass alone: the place where it is stopped, in the right one counted on from the end of the left
abbrev pub stopped_context : ℕ → Fault
stopped_context i = StoppedContext i

-- no such string exists: 0 in a join, in a sheet the letters and gaps taken
abbrev pub no_string : ℕ → Fault
no_string n = NoString n

-- the answer, in a sheet the whole new text, is longer than the text table: its length
abbrev pub short_text : ℕ → Fault
short_text n = ShortText n

-- a context of over 50,000 letters: its length
abbrev pub long_context : ℕ → Fault
long_context n = LongContext n

-- 50,000 letters and gaps are taken
abbrev pub full_sheet : Fault
full_sheet = FullSheet

-- a file that breaks the line rules
abbrev pub broken_file : Fault
broken_file = BrokenFile

abbrev pub number_of : Fault → ℕ
number_of (NoLetter i) = 1
number_of (BadLength n) = 2
number_of (FullList n) = 3
number_of ShortTables = 4
number_of (ShortWork n) = 4
number_of (BadLimit r) = 5
number_of (LargePair n) = 5
number_of (BadWindow k) = 5
number_of (LongMemory m) = 6
number_of (StoppedContext i) = 7
number_of (NoString n) = 8
number_of (ShortText n) = 9
number_of (LongContext n) = 10
number_of FullSheet = 10
number_of BrokenFile = 11

abbrev pub layer_of : Fault → Layer
layer_of (NoLetter i) = Letter
layer_of (BadLength n) = List
layer_of (FullList n) = List
layer_of ShortTables = List
layer_of (ShortWork n) = Join
layer_of (BadLimit r) = Automaton
layer_of (LargePair n) = Automaton
layer_of (BadWindow k) = Sheet
layer_of (LongMemory m) = Sheet
layer_of (StoppedContext i) = Join
layer_of (NoString n) = Join
layer_of (ShortText n) = Join
layer_of (LongContext n) = Join
layer_of FullSheet = Sheet
layer_of BrokenFile = File

abbrev pub place_of : Fault → ℕ
place_of (NoLetter i) = i
place_of (BadLength n) = n
place_of (FullList n) = n
place_of ShortTables = 512
place_of (ShortWork n) = n
place_of (BadLimit r) = r
place_of (LargePair n) = n
place_of (BadWindow k) = k
place_of (LongMemory m) = m
place_of (StoppedContext i) = i
place_of (NoString n) = n
place_of (ShortText n) = n
place_of (LongContext n) = n
place_of FullSheet = 50000
place_of BrokenFile = 0

-- L, P, S, J, T, F
abbrev pub layer_byte : Fault → ℕ
layer_byte f = elim (layer_of f) [ Letter ↦ 76 | List ↦ 80 | Automaton ↦ 83 | Join ↦ 74 | Sheet ↦ 84 | File ↦ 70 ]
