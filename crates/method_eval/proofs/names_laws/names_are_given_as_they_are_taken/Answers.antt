use Rattle.method_eval.proofs.Taken.{taken}
use Rattle.method_eval.proofs.names_laws.names_are_given_as_they_are_taken.Goals as goal

pub returns : goal.returns
returns c = taken
