use Rattle.law_repo_objects.proofs.Following.{follows-entry}
use Rattle.law_repo_objects.proofs.laws.objects_follow_entries.Goals as goal

pub returns : goal.returns
returns c = follows-entry
