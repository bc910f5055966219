use Rattle.std.proofs.Common.{inl, inr}
use Rattle.top_judging.proofs.StageLaws.{ok_map}
use Rattle.top_judging.proofs.auditing.audit_parts.Goals as goal

pub returns-in-Ok : goal.returns-in-Ok
returns-in-Ok c = ok_map c.audit_script.result _ _ (λ r replies. inr (c.in-Ok.script, (c.in-Ok.ensures.script, replies))) c.audit_script.ensures

pub returns-in-Err : goal.returns-in-Err
returns-in-Err c = ok_map c.in-Err.reply _ _ (λ r none. inl none) c.in-Err.ensures.reply
