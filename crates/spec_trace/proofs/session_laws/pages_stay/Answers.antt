use Rattle.spec_trace.proofs.Undecided.{pages-grown, pages-taken}
use Rattle.spec_trace.proofs.session_laws.pages_stay.Goals as goal

pub returns : goal.returns
returns c = record { grown = pages-grown; taken = pages-taken }
