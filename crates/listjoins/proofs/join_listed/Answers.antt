use Rattle.std.proofs.Common.{length}
use Rattle.joinlaw.specs.Bridges.{join}
use Rattle.lists.specs.Meaning.{listed}
use Rattle.listjoins.proofs.Frees.{free_is, impossible_is}
use Rattle.listjoins.proofs.join_listed.Goals as goal

pub returns : goal.returns
returns g c =
    let A = g.L.Letter.alphabet in
    let m = listed A c.args.list.now in
    let u = c.args.left.now in
    let v = c.args.right.now in
    record {
      answer = c.join.ensures.answer;
      text = c.join.ensures.text;
      work = c.join.ensures.work;
      free = λ ps means. free_is A m ps means u v (join A m u v) c.join.ensures.least;
      impossible = λ ps means.
          impossible_is A m ps means u v (length c.args.text.now) (length c.args.work.now) c.join.result c.join.ensures.answer (free_is A m ps means u v (join A m u v) c.join.ensures.least);
    }
