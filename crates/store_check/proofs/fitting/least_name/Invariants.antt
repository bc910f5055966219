use Rattle.store_check.specs.Tests.{least_name}
use Rattle.store_check.proofs.fitting.least_name.Given as goal
use Rattle.std.proofs.Common.{◌≡◌, take}

-- the least of the names so far
abbrev pub invariant-loop-oref : goal.invariant-loop-oref
invariant-loop-oref l = l.found ≡ least_name l.known.schemas.now l.known.objects.now l.known.namings.now l.known.ways.now (take l.oref-index l.names)
