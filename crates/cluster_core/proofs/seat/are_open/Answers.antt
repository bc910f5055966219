use Rattle.cluster_core.proofs.Seating.{open_more}
use Rattle.cluster_core.proofs.seat.are_open.Goals as goal

pub loop-seat-preserved : goal.loop-seat-preserved
loop-seat-preserved g c = λ others.
    c.loop-seat.invariant (open_more c.args.seats.now c.loop-seat.seat-index c.seat-item.result c.loop-seat-test.true c.seat-item.is (c.is_open.ensures c.if-not-is_open.false) others)
