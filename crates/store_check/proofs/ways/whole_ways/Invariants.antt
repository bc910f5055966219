use Rattle.store_check.specs.Reached.{AreWays}
use Rattle.store_check.proofs.ways.whole_ways.Given as goal
use Rattle.std.proofs.Common.{◌≤◌, ◌+◌, ◌-◌}

-- these are ways of so many steps
abbrev pub invariant-doubled : goal.invariant-doubled
invariant-doubled l = record { some : 1 ≤ l.steps; ways : AreWays l.schemas l.objects l.namings l.steps l.ways }

-- the steps that are left below the number of the objects
abbrev pub decreases-doubled : goal.decreases-doubled
decreases-doubled l = (l.most + 1) - l.steps
