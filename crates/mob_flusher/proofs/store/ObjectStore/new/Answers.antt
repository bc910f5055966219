use Rattle.mob_flusher.proofs.ImagesKept.{show_none}
use Rattle.mob_flusher.proofs.store.ObjectStore.new.Goals as goal

pub invariant_of-result : goal.invariant_of-result
invariant_of-result c = show_none c.new.result (record { pages = c.args.pages; mob = c.args.mob }) c.new.ensures
