use Rattle.std.proofs.Common.{IsErrOf, rules, subst, sym}
use Rattle.std.specs.List.{AllByRecursion}
use Rattle.log_codec.specs.Grammar.{BodyFits}
use Rattle.recovery.specs.Damage.{IsNoBody}
use Rattle.recovery.specs.declared.fault.RecoverFault.TheVariants.{Damaged}
use Rattle.recovery.proofs.Read.{all_push, no_body, place_next, read_next}
use Rattle.recovery.proofs.bodies.read_bodies.Goals as goal

pub loop-spelled-preserved : goal.loop-spelled-preserved
loop-spelled-preserved c = (
  read_next c.args.records.now c.loop-spelled.spelled-index c.spelled-item.result c.loop-spelled.bodies c.push.new.self c.in_ok-body.body c.loop-spelled-test.true c.spelled-item.is c.in_ok-body.ensures.body c.loop-spelled.invariant.0 c.in_ok-push.ensures.ok,
  subst (AllByRecursion BodyFits) (sym c.in_ok-push.ensures.ok) (all_push BodyFits c.loop-spelled.bodies c.in_ok-body.body c.loop-spelled.invariant.1 c.in_ok-body.ensures.fits),
  place_next c.args.first c.args.records.now c.loop-spelled.spelled-index c.spelled-item.result c.loop-spelled.place c.gate_after-place.result c.loop-spelled-test.true c.spelled-item.is c.loop-spelled.invariant.2 c.gate_after-place.ensures,
)

pub returns-in_err-body-clause-damaged : goal.returns-in_err-body-clause-damaged
returns-in_err-body-clause-damaged c = λ d place is.
    let wrong : IsErrOf c.read_record.result (Damaged d place) = search rules in
    let f = c.read_record.ensures.damaged d place wrong in
    (f.0, subst (IsNoBody c.args.first c.args.records.now) (sym f.1) (no_body c.args.first c.args.records.now c.loop-spelled.spelled-index c.spelled-item.result c.loop-spelled.place c.loop-spelled-test.true c.spelled-item.is c.loop-spelled.invariant.2 f.2))
