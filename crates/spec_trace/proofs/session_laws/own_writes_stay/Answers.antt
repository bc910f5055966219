use Rattle.spec_trace.proofs.Undecided.{current-more, entry-keeps, mark-keeps, own-committed}
use Rattle.spec_trace.proofs.session_laws.own_writes_stay.Goals as goal

pub returns : goal.returns
returns c = record { marks = mark-keeps; entries = entry-keeps; committed = own-committed; more = current-more }
