use Rattle.spec_history.proofs.Serial.{order}
use Rattle.spec_history.proofs.history_laws.sound_histories_have_order.Goals as goal

pub returns : goal.returns
returns c = order
