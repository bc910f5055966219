use Rattle.test_repository.proofs.sets.stale.Goals as goal

pub stale-requires : goal.stale-requires
stale-requires c = (c.is_in_order.ensures.0 c.if-is_in_order.true).reads_rise
