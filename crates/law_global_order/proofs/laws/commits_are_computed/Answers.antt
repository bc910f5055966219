use Rattle.law_global_order.proofs.Listing.{are-the-commits}
use Rattle.law_global_order.proofs.laws.commits_are_computed.Goals as goal

pub returns : goal.returns
returns c = are-the-commits
