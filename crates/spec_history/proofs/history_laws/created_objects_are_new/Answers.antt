use Rattle.spec_history.proofs.Serial.{created_once}
use Rattle.spec_history.proofs.history_laws.created_objects_are_new.Goals as goal

pub returns : goal.returns
returns c = created_once
