use Rattle.std.proofs.Common.{◌≡◌}
use Rattle.client_cache.specs.Slots.{no_copies}
use Rattle.client_cache.proofs.page_copies.Slots.empty.Given as goal

abbrev pub invariant-loop : goal.invariant-loop
invariant-loop l = l.slots.items ≡ no_copies l.counter
