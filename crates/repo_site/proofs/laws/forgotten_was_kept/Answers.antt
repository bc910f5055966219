use Rattle.repo_site.proofs.Standing.{was_kept}
use Rattle.repo_site.proofs.laws.forgotten_was_kept.Goals as goal

pub returns : goal.returns
returns c = was_kept
