use Rattle.law_lazy_upgrade.proofs.Shrinking.{shrinks}
use Rattle.law_lazy_upgrade.proofs.ownership.references_shrink.Goals as goal

pub returns : goal.returns
returns c = λ s m e k o i d z keeps above within r. shrinks s e keeps m o k above within i d z r
