use Rattle.std.proofs.Common.{◌≡◌, ◌^◌, take, fold, Some, None}
use Rattle.files.specs.Fields.{onward, Under}
use Rattle.files.proofs.fields.read_four.Given as goal

abbrev pub invariant-loop-b : goal.invariant-loop-b
invariant-loop-b l = (Some l.read ≡ fold onward (Some None) (take l.b-index l.s)) × Under (10 ^ l.b-index) l.read
