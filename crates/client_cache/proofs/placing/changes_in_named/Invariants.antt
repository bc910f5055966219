use Rattle.std.proofs.Common.{◌≡◌, length}
use Rattle.std.specs.Option.{option_copied}
use Rattle.client_cache.specs.Changes.{kept_behind}
use Rattle.client_cache.proofs.Brought.{BroughtTo}
use Rattle.client_cache.proofs.placing.changes_in_named.Given as goal

abbrev pub invariant-loop-slot : goal.invariant-loop-slot
invariant-loop-slot l = BroughtTo l.fn.page (kept_behind l.changes.items (option_copied l.fn.held)) l.slot × (length l.changes.items ≡ l.slot)
