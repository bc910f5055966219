use Rattle.law_client_views.proofs.examples.what_calls_do_not.Goals as goal
use Rattle.std.proofs.Common.{arith, ◌<◌}

-- the transaction is of this run
later : 0 < 1
later = omega arith

pub returns : goal.returns
returns c = record {
  calm = λ w. let e = w.1.1 in cc;
  unseen = λ w. let e = w.0 in cc;
  still_calm = λ w. w.1;
  undecided = λ w. let e = w.0.1 later in cc;
}
