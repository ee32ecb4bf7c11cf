use Rattle.std.proofs.Common.{refl}
use Rattle.pages.proofs.Overs.{push_room, push_full}
use Rattle.pages.proofs.Page.push.Goals as goal

pub returns-then-at-self : goal.returns-then-at-self
returns-then-at-self c = record {
  text = λ xs ys h. push_room _ _ _ xs ys h.0 h.1 c.if-at-self.true;
  page = refl;
}

pub returns-else-at-self : goal.returns-else-at-self
returns-else-at-self c = record {
  text = λ xs ys h. push_full _ _ _ xs ys h.0 h.1 c.if-at-self.false;
  page = refl;
}
