use Rattle.spec_history.proofs.Serial.{upgrades_fence}
use Rattle.spec_history.proofs.history_laws.upgrades_fence.Goals as goal

pub returns : goal.returns
returns c = upgrades_fence
