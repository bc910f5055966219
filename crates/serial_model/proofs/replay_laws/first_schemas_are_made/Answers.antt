use Rattle.serial_model.proofs.Replayed.{first_made}
use Rattle.serial_model.proofs.replay_laws.first_schemas_are_made.Goals as goal

pub returns : goal.returns
returns c = λ s few first none. first_made s few first none
