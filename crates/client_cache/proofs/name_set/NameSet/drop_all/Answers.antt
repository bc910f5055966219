use Rattle.std.proofs.Common.{sym}
use Rattle.client_cache.proofs.NameLists.{dropped_next, none_dropped}
use Rattle.client_cache.proofs.name_set.NameSet.drop_all.Goals as goal

pub loop-oref-init : goal.loop-oref-init
loop-oref-init c = sym (none_dropped c.args.self.now)

pub loop-oref-preserved : goal.loop-oref-preserved
loop-oref-preserved c = dropped_next c.args.orefs.now c.loop-oref.oref-index _ c.args.self.now c.loop-oref.self c.remove.new.self (rw c.as_slice-oref-items.ensures at c.loop-oref-test.true) c.loop-oref.invariant (rw c.as_slice-oref-items.ensures at c.remove.ensures)
