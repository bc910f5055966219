use Rattle.spec_trace.proofs.Sessions.{session-end}
use Rattle.spec_trace.proofs.session_laws.sessions_grow.Goals as goal

pub returns : goal.returns
returns c = session-end
