use Rattle.spec_trace.proofs.Taken.{brings}
use Rattle.spec_trace.proofs.session_laws.pages_bring_what_was_read.Goals as goal

pub returns : goal.returns
returns c = brings
