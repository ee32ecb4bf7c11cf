use Rattle.std.proofs.Common.{◌*◌, ◌≤◌, rules}
use Rattle.pairlaw.proofs.Products.{only_both}
use Rattle.pairs.proofs.Pair.new.Goals as goal

pub returns : goal.returns
returns g c =
    let u = g.P.Automaton.model c.args.left in
    let v = g.Q.Automaton.model c.args.right in
    let fits : u.count * v.count ≤ 4096 = search rules in
    record {
      made = search rules;
      exactly = only_both u v (g.P.Automaton.lawful c.args.left) (g.Q.Automaton.lawful c.args.right) fits;
    }
