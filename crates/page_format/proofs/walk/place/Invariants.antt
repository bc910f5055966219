use Rattle.std.proofs.Common.{◌≡◌, ◌-◌, ◌≤◌, ◌+◌, length}
use Rattle.page_format.specs.Walking.{place_at, shifted}
use Rattle.page_format.proofs.walk.place.Given as goal

-- the place among the objects that are left is, moved on, that among all
abbrev pub invariant-loop : goal.invariant-loop
invariant-loop l = record {
  same : shifted l.start (place_at (l.count - l.counter) l.slot l.rest) ≡ place_at l.count l.slot l.entries;
  within : l.start + length l.rest ≤ length l.entries;
}
