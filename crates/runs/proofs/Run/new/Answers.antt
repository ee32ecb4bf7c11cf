use Rattle.std.proofs.Common.{arith, rules}
use Rattle.runlaw.proofs.Exact.{only_short}
use Rattle.runs.proofs.Run.new.Goals as goal

pub returns : goal.returns
returns g c = record {
  made = search rules;
  exactly = only_short g.L.Letter.alphabet g.L.Letter.numbered c.args.limit (omega arith);
}
