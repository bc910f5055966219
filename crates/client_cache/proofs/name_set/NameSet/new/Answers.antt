use Rattle.thor_value.proofs.Rising.{none_rise}
use Rattle.client_cache.proofs.name_set.NameSet.new.Goals as goal

pub invariant_of-result : goal.invariant_of-result
invariant_of-result c = rw c.new.ensures.items none_rise
