use Rattle.store_check.specs.Ways.{some_goes_on}
use Rattle.store_check.proofs.ways.some_goes_on.Given as goal
use Rattle.std.proofs.Common.{◌≡◌, take}

-- whether one of those so far hasn't ended
abbrev pub invariant-loop-oref : goal.invariant-loop-oref
invariant-loop-oref l = l.found ≡ some_goes_on l.ways (take l.oref-index l.names)
