use Rattle.std.proofs.Common.{refl, sym, ◌∙◌}
use Rattle.std.proofs.lemmas.Result.{err_from_is_err_and}
use Rattle.method_parse.specs.Setups.{more_parameters, other_parameters}
use Rattle.std.specs.Prelude.{codes}
use Rattle.method_parse.specs.Matching.{is}
use Rattle.method_parse.proofs.Repeats.{goes_on, stops, ends, breaks}
use Rattle.method_parse.proofs.setups.other_parameters.Goals as goal

pub loop-turn-init : goal.loop-turn-init
unfolding other_parameters
loop-turn-init c =
    refl

pub returns-then-not-next_is : goal.returns-then-not-next_is
returns-then-not-next_is c =
    stops (λ parameters. is (codes ",")) (more_parameters) 7 c.loop-turn._turn c.loop-turn.read c.loop-turn.rest.now _ (sym c.next_is.ensures ∙ c.if-not-next_is.true) c.loop-turn.invariant

pub returns-in_err-more : goal.returns-in_err-more
returns-in_err-more c =
    let b = breaks (λ parameters. is (codes ",")) (more_parameters) c.in_err-more.field-0.0 7 c.loop-turn._turn c.loop-turn.read c.loop-turn.rest.now _ c.loop-turn-test.true (sym c.next_is.ensures ∙ c.if-not-next_is.false) c.in_err-more.ensures c.loop-turn.invariant in
    let p = err_from_is_err_and c.from_residual.result c.from_residual.ensures.1 in
    rw (p.1, p.2) b

pub loop-turn-preserved : goal.loop-turn-preserved
loop-turn-preserved c =
    goes_on (λ parameters. is (codes ",")) (more_parameters) 7 c.loop-turn._turn c.loop-turn.read c.in_ok-more.more c.loop-turn.rest.now c.in_ok-more.after.now _ c.loop-turn-test.true (sym c.next_is.ensures ∙ c.if-not-next_is.false) c.in_ok-more.ensures c.loop-turn.invariant

pub returns : goal.returns
returns c =
    ends (λ parameters. is (codes ",")) (more_parameters) 7 c.loop-turn._turn c.loop-turn.read c.loop-turn.rest.now _ c.loop-turn-test.false c.loop-turn.invariant
