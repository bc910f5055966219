use Rattle.std.proofs.Common.{List, Some, None, arith, length, refl, subst, sym, take, ◌+◌, ◌≡◌, ◌≤◌}
use Rattle.serial_model.specs.Outcomes.{client_items_from, items_from, all_items}
use Rattle.serial_model.specs.declared.entries.What.{What}
use Rattle.serial_model.specs.declared.outcomes.Ended.{Ended}
use Rattle.audit_check.specs.Items.{AreRight, AreRightOr, items_at}
use Rattle.audit_check.proofs.Rightness.{item_fault, more_wrong, one_client, wrong_client}
use Rattle.audit_check.proofs.items.are_right.Goals as goal

pub returns-in-Some : goal.returns-in-Some
returns-in-Some c =
    let history = c.args.history.now in
    let clients = c.args.clients.now in
    let client = c.loop-client.client in
    let theirs = items_from (client + 1) 1 (items_at clients client) in
    let first = subst (λ (es : List Ended). AreRightOr history theirs es (Some c.in-Some.wrong)) c.split_at.ensures.back c.in-Some.ensures in
    item_fault history (all_items clients) c.args.ended.now (c.loop-client.used + c.in-Some.wrong) (c.loop-client.used + c.in-Some.wrong) c.item_at.result c.item_at.ensures refl
    (wrong_client clients history c.args.ended.now client c.loop-client.used c.loop-client-test.true c.in-Some.wrong c.loop-client.invariant first)

pub loop-client-preserved : goal.loop-client-preserved
loop-client-preserved c =
    let history = c.args.history.now in
    let clients = c.args.clients.now in
    let client = c.loop-client.client in
    let used = c.loop-client.used in
    let ended = c.args.ended.now in
    let theirs = items_from (client + 1) 1 (items_at clients client) in
    let right = subst (λ (es : List Ended). AreRightOr history theirs es None) c.split_at.ensures.back c.in-None.ensures in
    subst (λ (ws : List What). (used + length ws ≤ length ended) × AreRight history (client_items_from 1 (take (client + 1) clients)) (take (used + length ws) ended)) (sym c.items_at-count.ensures)
    (one_client clients history ended client used c.loop-client-test.true c.loop-client.invariant right)

pub returns-then-used-ended : goal.returns-then-used-ended
returns-then-used-ended c =
    let history = c.args.history.now in
    let clients = c.args.clients.now in
    let used = c.loop-client.used in
    let same : used + 0 ≡ used = omega (arith) in
    item_fault history (all_items clients) c.args.ended.now used (used + 0) c.item_at-then-used-ended.result c.item_at-then-used-ended.ensures same
    (more_wrong clients history c.args.ended.now c.loop-client.client used c.loop-client-test.false c.loop-client.invariant c.if-used-ended.true)
