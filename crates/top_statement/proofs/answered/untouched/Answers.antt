use Rattle.repo_opening.proofs.Syncing.{same_all}
use Rattle.top_statement.proofs.answered.untouched.Goals as goal

pub returns-clause-same : goal.returns-clause-same
returns-clause-same g c = rw c.unplayed.ensures.parts (same_all g.P.Parts.disks c.args.parts.items)
