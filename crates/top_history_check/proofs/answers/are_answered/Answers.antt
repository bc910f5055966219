use Rattle.top_history_check.proofs.Answering.{one_client_at}
use Rattle.top_history_check.proofs.answers.are_answered.Goals as goal

pub loop-place-preserved : goal.loop-place-preserved
loop-place-preserved c =
    one_client_at c.args.clients.now c.args.history.now c.args.places.now c.requires.performed c.requires.places c.args.ends.now c.loop-place.used c.loop-place.place c.index-clients-place.result c.as_slice-items.result.now
    c.loop-place-test.true c.index-clients-place.is c.as_slice-items.ensures (c.are_next.ensures c.if-not-are_next.false) c.loop-place.invariant
