use Rattle.lang_small_steps.proofs.Supplying.{names_are_enough}
use Rattle.lang_small_steps.proofs.laws.names_taken_are_enough.Goals as goal

pub returns : goal.returns
returns c = names_are_enough
