use Rattle.store_check.specs.Ways.{one_step, ways_for}
use Rattle.store_check.proofs.ways.first_ways.Given as goal
use Rattle.std.proofs.Common.{◌≡◌, take}

-- the ways of the objects so far
abbrev pub invariant-loop-oref : goal.invariant-loop-oref
invariant-loop-oref l = l.ways ≡ ways_for (one_step l.schemas l.objects l.namings) (take l.oref-index l.names)
