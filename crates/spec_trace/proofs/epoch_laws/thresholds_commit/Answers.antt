use Rattle.spec_trace.proofs.Above.{threshold-above}
use Rattle.spec_trace.proofs.Thresholds.{thresholds}
use Rattle.spec_trace.proofs.epoch_laws.thresholds_commit.Goals as goal

pub returns : goal.returns
returns c = record { committed = thresholds; above = threshold-above }
