use Rattle.top_history_check.proofs.Answering.{one_told}
use Rattle.top_history_check.proofs.answers.are_told.Goals as goal

pub loop-place-preserved : goal.loop-place-preserved
loop-place-preserved c =
    one_told c.args.places.now c.args.history.now c.args.client c.args.ends.now c.loop-place.place c.index-ends-place.result c.loop-place-test.true c.index-ends-place.is (c.is_told.ensures c.if-not-is_told.false) c.loop-place.invariant
