use Rattle.std.proofs.Common.{◌≡◌, ◌-◌}
use Rattle.std.specs.Ordering.{nat_cmp}
use Rattle.std.specs.BTreeMap.{is_at}
use Rattle.std.specs.Map.{lookup}
use Rattle.page_format.specs.Walking.{pairs_of}
use Rattle.page_format.proofs.walk.find.Given as goal

-- what stands in the slot among all objects stands there among those that are left
abbrev pub invariant-loop : goal.invariant-loop
invariant-loop l = lookup (is_at (nat_cmp l.slot)) (pairs_of (l.count - l.counter) l.rest) ≡ lookup (is_at (nat_cmp l.slot)) (pairs_of l.count l.entries)
