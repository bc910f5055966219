use Rattle.law_global_order.proofs.Fresh.{upgrades-agree}
use Rattle.law_global_order.proofs.laws.upgrades_fence_all.Goals as goal

pub returns : goal.returns
returns c = λ S sd at. upgrades-agree S at sd
