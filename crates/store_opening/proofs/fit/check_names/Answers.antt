use Rattle.std.proofs.Common.{false, true, ◌≡◌}
use Rattle.store_opening.proofs.Fitting.{first_failed, passed_all, passed_more}
use Rattle.store_opening.specs.Fitting.{HasOwnNames}
use Rattle.store_opening.specs.Joined.{read_states}
use Rattle.store_opening.specs.Standing.{member_of}
use Rattle.store_opening.proofs.fit.check_names.Goals as goal

pub loop-one-preserved : goal.loop-one-preserved
loop-one-preserved c =
    passed_more member_of (HasOwnNames (read_states c.args.store.now) c.args.names.now) c.args.standing.now c.loop-one.one-index c.one-item.result c.loop-one-test.true c.one-item.is c.loop-one.invariant
    (c.in_ok-own.ensures.0 c.if-not-own.false)

pub returns-then-not-own-clause-misfit : goal.returns-then-not-own-clause-misfit
returns-then-not-own-clause-misfit c = λ r is.
    first_failed member_of (HasOwnNames (read_states c.args.store.now) c.args.names.now) c.args.standing.now c.loop-one.one-index c.one-item.result r c.loop-one-test.true c.one-item.is c.loop-one.invariant
    (λ passes. let told : c.in_ok-own.own ≡ true = c.in_ok-own.ensures.1 passes in let no : c.in_ok-own.own ≡ false = c.if-not-own.true in cc) (cc)

pub returns-clause-passed : goal.returns-clause-passed
returns-clause-passed c = passed_all member_of (HasOwnNames (read_states c.args.store.now) c.args.names.now) c.args.standing.now c.loop-one.one-index c.loop-one-test.false c.loop-one.invariant
