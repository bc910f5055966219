use Rattle.std.proofs.Common.{false, true, ◌≡◌}
use Rattle.store_opening.proofs.Fitting.{first_failed, passed_all, passed_more}
use Rattle.store_opening.specs.Fitting.{IsAlike}
use Rattle.store_opening.specs.Joined.{read_states, state_of}
use Rattle.store_opening.specs.Standing.{member_of}
use Rattle.store_opening.proofs.alike.check_alike.Goals as goal

pub loop-other-preserved : goal.loop-other-preserved
loop-other-preserved c =
    passed_more member_of (IsAlike (read_states c.args.store.now) (state_of c.args.first.now.read.now)) c.args.others.now c.loop-other.other-index c.other-item.result c.loop-other-test.true c.other-item.is c.loop-other.invariant
    (c.is_alike.ensures.0 c.if-not-is_alike.false)

pub returns-then-not-is_alike-clause-misfit : goal.returns-then-not-is_alike-clause-misfit
returns-then-not-is_alike-clause-misfit c = λ r is.
    first_failed member_of (IsAlike (read_states c.args.store.now) (state_of c.args.first.now.read.now)) c.args.others.now c.loop-other.other-index c.other-item.result r c.loop-other-test.true c.other-item.is c.loop-other.invariant
    (λ passes. let told : c.is_alike.result ≡ true = c.is_alike.ensures.1 passes in let no : c.is_alike.result ≡ false = c.if-not-is_alike.true in cc) (cc)

pub returns-clause-passed : goal.returns-clause-passed
returns-clause-passed c = passed_all member_of (IsAlike (read_states c.args.store.now) (state_of c.args.first.now.read.now)) c.args.others.now c.loop-other.other-index c.loop-other-test.false c.loop-other.invariant
