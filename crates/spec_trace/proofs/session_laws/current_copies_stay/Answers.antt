use Rattle.spec_trace.proofs.Undecided.{current-brought, current-grown, current-taken}
use Rattle.spec_trace.proofs.session_laws.current_copies_stay.Goals as goal

pub returns : goal.returns
returns c = record { grown = current-grown; taken = current-taken; brought = current-brought }
