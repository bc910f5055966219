use Rattle.spec_history.proofs.Vouched.{keeps}
use Rattle.spec_history.proofs.history_laws.bases_are_kept.Goals as goal

pub returns : goal.returns
returns c = λ b H base sd. keeps b base H sd
