use Rattle.law_lazy_upgrade.proofs.Values.{get-each}
use Rattle.class_defs.specs.Eager.{value}
use Rattle.law_lazy_upgrade.proofs.lazy.eager_objects.Goals as goal

pub returns : goal.returns
returns c = λ s L x. get-each (value s L.objects L.epoch) L.objects x
