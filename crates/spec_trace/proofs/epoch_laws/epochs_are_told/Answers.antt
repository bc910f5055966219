use Rattle.spec_trace.proofs.EpochsTold.{brings, tells}
use Rattle.spec_trace.proofs.epoch_laws.epochs_are_told.Goals as goal

pub returns : goal.returns
returns c = record { told = tells; brought = brings }
