use Rattle.law_lazy_upgrade.proofs.Moving.{moves_up}
use Rattle.law_lazy_upgrade.proofs.lazy.upgrade_moves_up.Goals as goal

pub returns : goal.returns
returns c = λ s L u sorted versions is. moves_up s L u is sorted versions
