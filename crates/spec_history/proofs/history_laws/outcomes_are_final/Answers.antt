use Rattle.spec_history.proofs.Final.{life_ends, stays_some, stood_some}
use Rattle.spec_history.proofs.history_laws.outcomes_are_final.Goals as goal

pub returns : goal.returns
returns c = record { stays = stays_some; stood = stood_some; life = life_ends }
