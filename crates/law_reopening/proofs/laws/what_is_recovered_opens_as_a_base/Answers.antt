use Rattle.law_reopening.proofs.Opens.{opens}
use Rattle.law_reopening.proofs.laws.what_is_recovered_opens_as_a_base.Goals as goal

pub returns : goal.returns
returns c = opens
