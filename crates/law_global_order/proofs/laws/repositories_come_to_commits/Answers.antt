use Rattle.law_global_order.proofs.End.{at_end}
use Rattle.law_global_order.proofs.Listing.{listed}
use Rattle.law_global_order.specs.Whole.{commits}
use Rattle.law_global_order.proofs.laws.repositories_come_to_commits.Goals as goal

pub returns : goal.returns
returns c = λ S sd at r x. at_end S at sd (commits S).pairs (listed S sd) r x
