use Rattle.spec_trace.proofs.Fences.{fences}
use Rattle.spec_trace.proofs.epoch_laws.fences_count.Goals as goal

pub returns : goal.returns
returns c = fences
