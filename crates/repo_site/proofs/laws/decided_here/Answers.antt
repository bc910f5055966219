use Rattle.repo_site.proofs.Standing.{same_number}
use Rattle.repo_site.proofs.laws.decided_here.Goals as goal

pub returns : goal.returns
returns c = same_number
