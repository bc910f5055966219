use Rattle.std.specs.Option.{option_copied}
use Rattle.client_cache.specs.Changes.{kept_behind}
use Rattle.client_cache.proofs.Brought.{all_brought}
use Rattle.client_cache.proofs.placing.changes_in_named.Goals as goal

pub returns-clause-brings : goal.returns-clause-brings
returns-clause-brings c = rw c.of_all.ensures (all_brought c.args.page.now (kept_behind c.loop-slot.changes.items (option_copied c.args.held)) c.loop-slot.slot c.requires c.loop-slot.invariant.0 c.loop-slot-test.false)
