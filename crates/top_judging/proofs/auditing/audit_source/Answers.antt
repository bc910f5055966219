use Rattle.top_judging.proofs.AuditLaws.{read_source}
use Rattle.top_judging.proofs.StageLaws.{ok_map}
use Rattle.top_judging.proofs.auditing.audit_source.Goals as goal

pub returns-in-Ok : goal.returns-in-Ok
returns-in-Ok g c =
    ok_map c.audit_bytes.result _ _
    (read_source c.args.plan.now _ _ c.in-Ok.bytes c.as_slice.result.now (record { took = c.in-Ok.ensures.took; at_end = c.in-Ok.ensures.end; short = c.in-Ok.ensures.within }) c.as_slice.ensures) c.audit_bytes.ensures
