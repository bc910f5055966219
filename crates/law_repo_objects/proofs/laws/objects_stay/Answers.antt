use Rattle.law_repo_objects.proofs.Following.{stays}
use Rattle.law_repo_objects.proofs.laws.objects_stay.Goals as goal

pub returns : goal.returns
returns c = stays
