use Rattle.std.proofs.Common.{IsErrOf, rules}
use Rattle.store_opening.proofs.Fitting.{first_failed, passed_all, passed_more}
use Rattle.store_opening.specs.Fitting.{IsRead}
use Rattle.store_opening.specs.Joined.{read_states, state_of}
use Rattle.store_opening.specs.Standing.{member_of}
use Rattle.store_opening.specs.declared.misfit.Misfit.TheVariants.{Of}
use Rattle.store_opening.proofs.alike.check_read.Goals as goal

pub loop-other-preserved : goal.loop-other-preserved
loop-other-preserved c =
    passed_more member_of (IsRead (read_states c.args.store.now) (state_of c.args.first.now.read.now)) c.args.others.now c.loop-other.other-index c.other-item.result c.loop-other-test.true c.other-item.is c.loop-other.invariant
    c.in_ok-check_texts.ensures.passed

pub returns-in_err-check_texts-clause-misfit : goal.returns-in_err-check_texts-clause-misfit
returns-in_err-check_texts-clause-misfit c = λ r is.
    let wrong : IsErrOf c.check_texts.result (Of r) = search rules in
    let told = c.check_texts.ensures.misfit r wrong in
    first_failed member_of (IsRead (read_states c.args.store.now) (state_of c.args.first.now.read.now)) c.args.others.now c.loop-other.other-index c.other-item.result r c.loop-other-test.true c.other-item.is c.loop-other.invariant
    told.1 told.0

pub returns-clause-passed : goal.returns-clause-passed
returns-clause-passed c = passed_all member_of (IsRead (read_states c.args.store.now) (state_of c.args.first.now.read.now)) c.args.others.now c.loop-other.other-index c.loop-other-test.false c.loop-other.invariant
