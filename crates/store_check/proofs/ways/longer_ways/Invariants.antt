use Rattle.store_check.specs.Ways.{longer, ways_for}
use Rattle.store_check.proofs.ways.longer_ways.Given as goal
use Rattle.std.proofs.Common.{◌≡◌, take}

-- the ways of the objects so far
abbrev pub invariant-loop-oref : goal.invariant-loop-oref
invariant-loop-oref l = l.ways ≡ ways_for (longer l.before) (take l.oref-index l.names)
