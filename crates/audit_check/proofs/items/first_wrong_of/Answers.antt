use Rattle.std.proofs.Common.{List, arith, length, subst, sym, ◌<◌, ◌≤◌}
use Rattle.serial_model.specs.declared.entries.What.{What}
use Rattle.audit_check.proofs.Rightness.{one_right, right_items, wrong_end, wrong_here}
use Rattle.audit_check.proofs.items.first_wrong_of.Goals as goal

pub returns-in-None : goal.returns-in-None
returns-in-None c =
    let place = c.loop-place.place in
    let within = subst (λ (ws : List What). place < length ws) c.items_at-items.ensures c.loop-place-test.true in
    wrong_end c.args.clients.now c.args.history.now c.args.standings.now c.requires.performed c.requires.stand c.args.client c.args.ended.now place within (sym c.in-None.ensures) c.loop-place.invariant

pub returns-then-not-is_right : goal.returns-then-not-is_right
returns-then-not-is_right c =
    let place = c.loop-place.place in
    let within = subst (λ (ws : List What). place < length ws) c.items_at-items.ensures c.loop-place-test.true in
    let few = c.requires.few in
    let low : place < 4294967295 = omega (arith, within, few) in
    wrong_here c.args.clients.now c.args.history.now c.args.standings.now c.requires.performed c.requires.stand c.args.client c.args.ended.now place c.in-Some.line.now within low (sym c.in-Some.ensures)
    (λ right. let t = c.is_right.ensures.1 right in let f = c.if-not-is_right.true in cc) c.loop-place.invariant

pub loop-place-preserved : goal.loop-place-preserved
loop-place-preserved c =
    let place = c.loop-place.place in
    let within = subst (λ (ws : List What). place < length ws) c.items_at-items.ensures c.loop-place-test.true in
    let few = c.requires.few in
    let low : place < 4294967295 = omega (arith, within, few) in
    one_right c.args.clients.now c.args.history.now c.args.standings.now c.requires.performed c.requires.stand c.args.client c.args.ended.now place c.in-Some.line.now within low (sym c.in-Some.ensures)
    (c.is_right.ensures.0 c.if-not-is_right.false) c.loop-place.invariant

pub returns : goal.returns
returns c =
    let place = c.loop-place.place in
    let past = subst (λ (ws : List What). length ws ≤ place) c.items_at-items.ensures c.loop-place-test.false in
    let within = subst (λ (ws : List What). place ≤ length ws) c.items_at-items.ensures c.loop-place.auto.place-end in
    right_items c.args.clients.now c.args.history.now c.args.standings.now c.requires.performed c.requires.stand c.args.client c.args.ended.now place past within c.loop-place.invariant
