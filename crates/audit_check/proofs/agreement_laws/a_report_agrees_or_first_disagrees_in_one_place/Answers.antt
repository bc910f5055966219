use Rattle.audit_check.proofs.Agreeing.{either, one}
use Rattle.audit_check.proofs.agreement_laws.a_report_agrees_or_first_disagrees_in_one_place.Goals as goal

pub returns-clause-either : goal.returns-clause-either
returns-clause-either c = either

pub returns-clause-one : goal.returns-clause-one
returns-clause-one c = one
