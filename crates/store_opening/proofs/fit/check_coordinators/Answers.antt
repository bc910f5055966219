use Rattle.std.proofs.Common.{false, true, ◌≡◌}
use Rattle.store_opening.proofs.Fitting.{first_failed, passed_all, passed_more}
use Rattle.store_opening.specs.Fitting.{HasCoordinators}
use Rattle.store_opening.specs.Joined.{read_states}
use Rattle.store_opening.specs.Standing.{member_of}
use Rattle.store_opening.proofs.fit.check_coordinators.Goals as goal

pub loop-one-preserved : goal.loop-one-preserved
loop-one-preserved c =
    passed_more member_of (HasCoordinators (read_states c.args.store.now)) c.args.standing.now c.loop-one.one-index c.one-item.result c.loop-one-test.true c.one-item.is c.loop-one.invariant
    (c.in_ok-has.ensures.0 c.if-not-has.false)

pub returns-then-not-has-clause-misfit : goal.returns-then-not-has-clause-misfit
returns-then-not-has-clause-misfit c = λ r is.
    first_failed member_of (HasCoordinators (read_states c.args.store.now)) c.args.standing.now c.loop-one.one-index c.one-item.result r c.loop-one-test.true c.one-item.is c.loop-one.invariant
    (λ passes. let told : c.in_ok-has.has ≡ true = c.in_ok-has.ensures.1 passes in let no : c.in_ok-has.has ≡ false = c.if-not-has.true in cc) (cc)

pub returns-clause-passed : goal.returns-clause-passed
returns-clause-passed c = passed_all member_of (HasCoordinators (read_states c.args.store.now)) c.args.standing.now c.loop-one.one-index c.loop-one-test.false c.loop-one.invariant
