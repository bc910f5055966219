use Rattle.law_upgrade_rules.proofs.KeptByRules.{all_keep}
use Rattle.law_upgrade_rules.proofs.accepted.accepted_upgrades_keep_ownership.Goals as goal

pub returns : goal.returns
returns c = λ s repos items e first all. all_keep s repos items e first all
