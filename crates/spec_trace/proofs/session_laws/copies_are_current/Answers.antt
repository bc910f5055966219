use Rattle.spec_trace.proofs.Copies.{current-cases}
use Rattle.spec_trace.proofs.session_laws.copies_are_current.Goals as goal

pub returns : goal.returns
returns c = current-cases
