use Rattle.spec_history.proofs.Below.{commits-take}
use Rattle.spec_history.proofs.Growth.{length-state, objects_at-append, state-end}
use Rattle.spec_history.proofs.Listed.{commits-end}
use Rattle.spec_history.proofs.history_laws.histories_grow.Goals as goal

pub returns : goal.returns
returns c = record {
  step = state-end;
  places = length-state;
  objects = objects_at-append;
  commits = commits-end;
  below = commits-take;
}
