use Rattle.mob_flusher.proofs.ImagesKept.{show_none}
use Rattle.mob_flusher.proofs.store.ObjectStore.installed.Goals as goal

pub invariant_of-self-2 : goal.invariant_of-self-2
invariant_of-self-2 c = show_none c.clear.new.self (record { pages = c.installed.new.self; mob = c.remove_page.new.self }) c.clear.ensures
