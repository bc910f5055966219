use Rattle.top_history_check.proofs.Ordering.{one_more_at}
use Rattle.top_history_check.proofs.order.is_in_client_order.Goals as goal

pub loop-place-preserved : goal.loop-place-preserved
loop-place-preserved c =
    one_more_at c.loop-place.last c.put.new.self c.args.history.now c.loop-place.place c.index-history-place.result c.loop-place-test.true c.index-history-place.is (c.is_below.ensures c.if-not-is_below.false) c.in_ok-put.ensures c.loop-place.invariant
