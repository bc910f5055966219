use Rattle.law_global_order.proofs.Turns.{writers_agree}
use Rattle.law_global_order.proofs.laws.readers_meet_commits.Goals as goal

pub returns : goal.returns
returns c = λ S sd at. writers_agree S at sd
