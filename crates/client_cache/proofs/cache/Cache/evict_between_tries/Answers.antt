use Rattle.client_cache.specs.Copies.{copy_by}
use Rattle.client_cache.specs.Slots.{written_in}
use Rattle.client_cache.proofs.Elsewhere.{none_of_some, nothing_both}
use Rattle.client_cache.proofs.cache.Cache.evict_between_tries.Goals as goal

pub invariant_of-self : goal.invariant_of-self
invariant_of-self c = record {
  some = c.self.invariant.some;
  marked = λ x. rw (rw (← c.self.view_is) at c.requires, c.evict.ensures) (none_of_some written_in c.self.inside.limit c.self.inside.pages x (rw (rw (← c.self.view_is) at c.requires) at c.self.invariant.marked x));
}

pub returns-clause-changed : goal.returns-clause-changed
returns-clause-changed c = λ x.
    let none = rw (rw (← c.self.view_is) at c.requires) at c.self.invariant.marked x in
    rw (← c.self.view_is, c.evict.ensures) (nothing_both (copy_by written_in c.self.inside.pages x) _ none (none_of_some written_in c.self.inside.limit c.self.inside.pages x none))
