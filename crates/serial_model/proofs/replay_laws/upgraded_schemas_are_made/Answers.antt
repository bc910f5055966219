use Rattle.serial_model.proofs.MadeSchemas.{applied_made}
use Rattle.serial_model.proofs.replay_laws.upgraded_schemas_are_made.Goals as goal

pub returns : goal.returns
returns c = λ s few first behind. applied_made s few first behind
