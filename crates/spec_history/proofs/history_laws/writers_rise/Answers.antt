use Rattle.spec_history.proofs.Serial.{writers_rise}
use Rattle.spec_history.proofs.history_laws.writers_rise.Goals as goal

pub returns : goal.returns
returns c = writers_rise
