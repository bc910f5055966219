use Rattle.std.proofs.Common.{subst, ◌+◌}
use Rattle.audit_check.specs.Lines.{FaultIs}
use Rattle.audit_check.specs.declared.disagreement.Disagreement.TheVariants as line
use Rattle.audit_check.proofs.Agreeing.{answered, unnamed}
use Rattle.audit_check.proofs.auditing.audit_legal.Goals as goal

pub returns-then-not-told : goal.returns-then-not-told
returns-then-not-told c = λ lines looks backups told.
    unnamed c.args.script.now lines looks backups c.args.ended.now c.args.told.now.history c.args.told.now.is_whole told c.if-not-told.true c.requires.legal c.entry_at.result
    (subst (λ n. FaultIs (line.Entry (n + 1)) c.entry_at.result) c.len.ensures c.entry_at.ensures)

pub returns : goal.returns
returns c = λ lines looks backups told.
    answered c.args.script.now lines looks backups c.args.ended.now c.args.told.now.history c.args.told.now.is_whole told c.if-not-told.false c.requires.legal c.is_answered.result c.is_answered.ensures
