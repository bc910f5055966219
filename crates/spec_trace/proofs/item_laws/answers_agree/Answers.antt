use Rattle.spec_trace.proofs.Answered.{agree}
use Rattle.spec_trace.proofs.item_laws.answers_agree.Goals as goal

pub returns : goal.returns
returns c = agree
