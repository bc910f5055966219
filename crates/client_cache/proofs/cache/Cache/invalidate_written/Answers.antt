use Rattle.std.specs.List.{list_any}
use Rattle.client_cache.specs.Copies.{copy_by}
use Rattle.client_cache.specs.Pages.{same_name}
use Rattle.client_cache.specs.Slots.{written_in}
use Rattle.client_cache.proofs.Elsewhere.{some_unless, written_without}
use Rattle.client_cache.proofs.cache.Cache.invalidate_written.Goals as goal

pub invariant_of-self : goal.invariant_of-self
invariant_of-self c = record {
  some = c.self.invariant.some;
  marked = λ x. rw (c.undo_all.ensures.written x, c.drop_all.ensures, written_without c.args.orefs.now c.self.inside.written x, ← c.self.invariant.marked x) (some_unless (list_any (λ y. same_name y x) c.args.orefs.now) (copy_by written_in c.self.inside.pages x));
}
