use Rattle.cluster_core.proofs.seat.sites_of.Goals as goal
use Rattle.cluster_core.specs.Seated.{AreOpen}
use Rattle.std.proofs.Common.{subst}

pub take_all-requires-clause-open : goal.take_all-requires-clause-open
take_all-requires-clause-open g c = subst AreOpen c.as_slice.ensures.value (c.are_open.ensures c.if-are_open.true)
