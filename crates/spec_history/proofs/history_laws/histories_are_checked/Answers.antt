use Rattle.spec_history.proofs.Decided.{decides_sound}
use Rattle.spec_history.proofs.history_laws.histories_are_checked.Goals as goal

pub returns : goal.returns
returns c = decides_sound
