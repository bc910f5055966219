use Rattle.audit_check.proofs.Agreeing.{not_legal}
use Rattle.audit_check.proofs.auditing.audit_told.Goals as goal

pub returns-in-Err : goal.returns-in-Err
returns-in-Err c = λ lines looks backups told. not_legal c.args.script.now lines looks backups c.args.ended.now c.args.told.now.history c.args.told.now.is_whole told c.in-Err.fault c.in-Err.ensures
