use Rattle.law_lazy_upgrade.proofs.Unseen.{unseen}
use Rattle.law_lazy_upgrade.proofs.lazy.transforms_are_unseen.Goals as goal

pub returns : goal.returns
returns c = λ s L x o keeps owned sorted is undue. unseen s L x o keeps owned is undue sorted
