use Rattle.std.proofs.Common.{refl, sym, ◌∙◌}
use Rattle.std.proofs.lemmas.Result.{err_from_is_err_and}
use Rattle.method_parse.specs.Setups.{begins_type}
use Rattle.method_parse.proofs.Repeats.{breaks, ends, goes_on, stops}
use Rattle.upgrade_defs.specs.Upgrades.{fields, more_fields}
use Rattle.upgrade_defs.proofs.upgrades.fields.Goals as goal

pub loop-turn-init : goal.loop-turn-init
unfolding fields
loop-turn-init c =
    rw c.new-read.ensures refl

pub returns-then-not-next_begins_type : goal.returns-then-not-next_begins_type
returns-then-not-next_begins_type c =
    stops (λ fields. begins_type) more_fields 32 c.loop-turn._turn c.loop-turn.read c.loop-turn.rest.now _
    (sym c.next_begins_type.ensures ∙ c.if-not-next_begins_type.true) c.loop-turn.invariant

pub returns-in_err-more : goal.returns-in_err-more
returns-in_err-more c =
    let b = breaks (λ fields. begins_type) more_fields c.in_err-more.field-0.0 32 c.loop-turn._turn c.loop-turn.read c.loop-turn.rest.now _
    c.loop-turn-test.true (sym c.next_begins_type.ensures ∙ c.if-not-next_begins_type.false) c.in_err-more.ensures c.loop-turn.invariant in
    let p = err_from_is_err_and c.from_residual.result c.from_residual.ensures.1 in
    rw (p.1, p.2) b

pub loop-turn-preserved : goal.loop-turn-preserved
loop-turn-preserved c =
    goes_on (λ fields. begins_type) more_fields 32 c.loop-turn._turn c.loop-turn.read c.in_ok-more.more c.loop-turn.rest.now c.in_ok-more.after.now _
    c.loop-turn-test.true (sym c.next_begins_type.ensures ∙ c.if-not-next_begins_type.false) c.in_ok-more.ensures c.loop-turn.invariant

pub returns : goal.returns
returns c =
    ends (λ fields. begins_type) more_fields 32 c.loop-turn._turn c.loop-turn.read c.loop-turn.rest.now _ c.loop-turn-test.false c.loop-turn.invariant
