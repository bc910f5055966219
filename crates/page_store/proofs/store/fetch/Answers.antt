use Rattle.std.proofs.Common.{◌∙◌}
use Rattle.page_store.proofs.store.fetch.Goals as goal

pub returns-in-Some-clause-damaged : goal.returns-in-Some-clause-damaged
returns-in-Some-clause-damaged g c = λ place sides err is. record {
  side = c.in-Some.side;
  in_use = is ∙ c.in-Some.is;
  place_is = c.read_side.ensures.place place err;
  none = c.read_side.ensures.damaged place err;
}
