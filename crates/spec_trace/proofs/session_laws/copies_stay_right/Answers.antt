use Rattle.spec_trace.proofs.Kept.{right-kept, step-kept}
use Rattle.spec_trace.proofs.Own.{own-right}
use Rattle.spec_trace.proofs.session_laws.copies_stay_right.Goals as goal

pub returns : goal.returns
returns c = record { right = right-kept; step = step-kept; committed = own-right }
