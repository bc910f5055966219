use Rattle.spec_history.proofs.Commits.{get-writes}
use Rattle.spec_history.proofs.LastWrite.{source}
use Rattle.spec_history.proofs.history_laws.objects_are_written.Goals as goal

pub returns : goal.returns
returns c = record { source = λ b H x sd. source b x H sd; behind = get-writes }
