use Rattle.law_eval.proofs.AboveMaps.{one_above, owners_above}
use Rattle.law_eval.proofs.evaluations.owners_told_are_those_above.Goals as goal

pub returns : goal.returns
returns c = record { above = owners_above; one = one_above }
