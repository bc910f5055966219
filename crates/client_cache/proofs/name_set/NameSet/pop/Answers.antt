use Rattle.client_cache.proofs.NameLists.{popped_left, popped_rise}
use Rattle.client_cache.proofs.name_set.NameSet.pop.Goals as goal

pub invariant_of-self : goal.invariant_of-self
invariant_of-self c = popped_rise c.self.inside.names.items c.pop.new.self.items c.pop.result c.pop.ensures.items c.self.invariant

pub returns-clause-left : goal.returns-clause-left
returns-clause-left c = rw (← c.self.view_is) (popped_left c.self.inside.names.items c.pop.new.self.items c.pop.result c.pop.ensures.items c.self.invariant)
