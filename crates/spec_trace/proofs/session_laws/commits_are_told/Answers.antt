use Rattle.spec_trace.proofs.Told.{all-told}
use Rattle.spec_trace.proofs.session_laws.commits_are_told.Goals as goal

pub returns : goal.returns
returns c = λ b T s. all-told b s T
