use Rattle.std.proofs.Common.{sym, ◌∙◌, arith}
use Rattle.seen_board.proofs.Rows.{each_push}
use Rattle.seen_board.proofs.making.make_clients.Goals as goal

pub loop-client-preserved : goal.loop-client-preserved
loop-client-preserved g c =
    let i = c.loop-client.invariant in
    let e = c.new_client.ensures in
    (e.chief.0 ∙ i.0, e.chief.1 ∙ i.1, e.chief.2, omega (arith, i.3, c.in_ok-push.ensures.len), rw c.in_ok-push.ensures.items (each_push _ c.loop-client.passes.items c.new_client.result i.4 (e.client.0 ∙ sym i.3, e.client.1)))
