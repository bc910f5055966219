use Rattle.spec_trace.proofs.Taken.{page-taken, right-taken, step-taken}
use Rattle.spec_trace.proofs.session_laws.messages_keep_copies.Goals as goal

pub returns : goal.returns
returns c = record { kept = right-taken; brought = page-taken; step = step-taken }
