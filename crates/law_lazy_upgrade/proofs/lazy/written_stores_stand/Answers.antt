use Rattle.law_lazy_upgrade.proofs.Moving.{stands_for_itself}
use Rattle.law_lazy_upgrade.proofs.lazy.written_stores_stand.Goals as goal

pub returns : goal.returns
returns c = stands_for_itself
