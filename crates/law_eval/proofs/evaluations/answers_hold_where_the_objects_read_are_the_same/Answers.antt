use Rattle.law_eval.proofs.Told.{holds_elsewhere}
use Rattle.law_eval.proofs.evaluations.answers_hold_where_the_objects_read_are_the_same.Goals as goal

pub returns : goal.returns
returns c = holds_elsewhere
