use Rattle.spec_trace.proofs.Sessions.{keeps-order, wait-by-place}
use Rattle.spec_trace.proofs.session_laws.messages_are_in_order.Goals as goal

pub returns : goal.returns
returns c = record { order = keeps-order; waits = wait-by-place }
