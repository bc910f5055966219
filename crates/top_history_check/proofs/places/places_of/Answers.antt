use Rattle.std.proofs.Common.{◌∙◌, sym}
use Rattle.top_history_check.proofs.Placing.{one_more_at}
use Rattle.top_history_check.proofs.places.places_of.Goals as goal

pub loop-place-preserved : goal.loop-place-preserved
loop-place-preserved c =
    one_more_at c.loop-place.places c.put.new.self c.args.history.now c.loop-place.place c.index-history-place.result c.loop-place-test.true c.index-history-place.is c.in_ok-put-in-None.ensures.low (sym c.get.ensures ∙ c.in-None.is) c.in_ok-put-in-None.ensures.put c.loop-place.invariant
