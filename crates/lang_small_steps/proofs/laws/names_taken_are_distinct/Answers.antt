use Rattle.lang_small_steps.proofs.Distinct.{created_distinct}
use Rattle.lang_small_steps.proofs.laws.names_taken_are_distinct.Goals as goal

pub returns : goal.returns
returns c = created_distinct
