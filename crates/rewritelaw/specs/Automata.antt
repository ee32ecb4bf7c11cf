-- Two automata as one. Assumes nothing.
--
--   paired_up u v   the pair of the automata u and v, which is refused where the product of their states is above 4,096
use Rattle.std.specs.Prelude.{◌*◌, cond, Ok, Err, Result, nat_le}
use Rattle.faults.specs.declared.Fault.{Fault}
use Rattle.faults.specs.Causes.{large_pair}
use Rattle.models.specs.Automaton.{Model}
use Rattle.pairlaw.specs.Pairs.{pair_model}

abbrev pub paired_up : {K : Type 0} → Model K → Model K → Result (Model K) Fault
paired_up u v = cond (nat_le (u.count * v.count) 4096) (Ok (pair_model u v)) (Err (large_pair (u.count * v.count)))
