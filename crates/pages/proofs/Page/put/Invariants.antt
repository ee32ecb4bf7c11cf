use Rattle.std.proofs.Common.{take}
use Rattle.pages.specs.Pages.{Wrote}
use Rattle.pages.proofs.Page.put.Given as goal

abbrev pub invariant-loop-byte : goal.invariant-loop-byte
invariant-loop-byte l = Wrote l.initial.self l.self (take l.byte-index l.bytes)
