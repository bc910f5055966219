use Rattle.store_check.proofs.Spelling.{if_some_at, none_at, some_at, walk_ends, walk_on, walk_stops}
use Rattle.store_check.specs.Spelled.{IsBehind, SpellsEpoch}
use Rattle.store_check.proofs.schemas.epochs_behind.Goals as goal

pub returns-in-None : goal.returns-in-None
returns-in-None c =
    walk_stops c.args.first.repos c.args.roots.now c.args.first.schema c.args.texts.now c.loop-text.text-index c.loop-text.epochs c.loop-text.standing c.loop-text.invariant
    c.text-item.result c.loop-text-test.true c.text-item.is
    (none_at (λ made. made.1) (SpellsEpoch c.loop-text.standing.repos c.args.roots.now c.loop-text.standing.schema c.text-item.result) c.in_ok-behind.field-0 c.in-None.is c.in_ok-behind.ensures.epoch)

pub loop-text-preserved : goal.loop-text-preserved
loop-text-preserved c =
    let behind = if_some_at (IsBehind c.loop-text.standing) c.in_ok-behind.field-0 (c.in-Some.behind, c.in-Some.epoch) c.in-Some.is c.in_ok-behind.ensures.standing in
    walk_on c.args.first.repos c.args.roots.now c.args.first.schema c.args.texts.now c.loop-text.text-index c.loop-text.epochs c.loop-text.standing c.loop-text.invariant
    c.text-item.result c.loop-text-test.true c.text-item.is c.in-Some.epoch c.push.new.self c.in-Some.behind
    (some_at (λ made. made.1) (SpellsEpoch c.loop-text.standing.repos c.args.roots.now c.loop-text.standing.schema c.text-item.result) c.in_ok-behind.field-0 (c.in-Some.behind, c.in-Some.epoch) c.in-Some.is c.in_ok-behind.ensures.epoch)
    c.in_ok-push-in-Some.ensures.ok behind.schema behind.repos

pub returns : goal.returns
returns c =
    walk_ends c.args.first.repos c.args.roots.now c.args.first.schema c.args.texts.now c.loop-text.text-index c.loop-text.epochs c.loop-text.standing c.loop-text.invariant c.loop-text-test.false
