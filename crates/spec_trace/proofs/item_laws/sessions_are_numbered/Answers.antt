use Rattle.spec_trace.proofs.Exactness.{numbered}
use Rattle.spec_trace.proofs.item_laws.sessions_are_numbered.Goals as goal

pub returns : goal.returns
returns c = numbered
