use Rattle.std.proofs.Common.{◌≡◌, ◌-◌, length, refl, sym, ◌∙◌, arith}
use Rattle.std.proofs.lemmas.Result.{err_from_is_err_and}
use Rattle.method_parse.proofs.Repeats.{breaks, ends, goes_on, stops}
use Rattle.upgrade_defs.specs.Upgrades.{all_classes, is_class, more_classes}
use Rattle.upgrade_defs.proofs.upgrades.all_classes.Goals as goal

pub loop-turn-init : goal.loop-turn-init
unfolding all_classes
loop-turn-init c =
    let e : length c.args.tokens.now - 0 ≡ length c.args.tokens.now = omega arith in
    rw e refl

pub returns-then-not-next_is : goal.returns-then-not-next_is
returns-then-not-next_is c =
    stops is_class more_classes (length c.args.tokens.now) c.loop-turn._turn c.loop-turn.read c.loop-turn.rest.now _
    (sym c.next_is.ensures ∙ c.if-not-next_is.true) c.loop-turn.invariant

pub returns-in_err-more : goal.returns-in_err-more
returns-in_err-more c =
    let b = breaks is_class more_classes c.in_err-more.field-0.0
    (length c.args.tokens.now) c.loop-turn._turn c.loop-turn.read c.loop-turn.rest.now _ c.loop-turn-test.true
    (sym c.next_is.ensures ∙ c.if-not-next_is.false) c.in_err-more.ensures c.loop-turn.invariant in
    let p = err_from_is_err_and c.from_residual.result c.from_residual.ensures.1 in
    rw (p.1, p.2) b

pub loop-turn-preserved : goal.loop-turn-preserved
loop-turn-preserved c =
    goes_on is_class more_classes (length c.args.tokens.now) c.loop-turn._turn c.loop-turn.read c.in_ok-more.more c.loop-turn.rest.now
    c.in_ok-more.after.now _ c.loop-turn-test.true (sym c.next_is.ensures ∙ c.if-not-next_is.false) c.in_ok-more.ensures c.loop-turn.invariant

pub returns : goal.returns
returns c =
    ends is_class more_classes (length c.args.tokens.now) c.loop-turn._turn c.loop-turn.read c.loop-turn.rest.now _ c.loop-turn-test.false
    c.loop-turn.invariant
