use Rattle.spec_trace.proofs.Accepting.{found, right_copies}
use Rattle.spec_trace.proofs.acceptance_laws.accepted_requests_are_current.Goals as goal

pub returns : goal.returns
returns c = record { found = found; copies = right_copies }
