use Rattle.std.proofs.Common.{List, subst}
use Rattle.serial_model.specs.declared.entries.What.{What}
use Rattle.audit_check.specs.Lines.{IsTold}
use Rattle.audit_check.proofs.Told.{told_items}
use Rattle.audit_check.proofs.auditing.audit.Goals as goal

pub audit_told-requires-clause-performed : goal.audit_told-requires-clause-performed
audit_told-requires-clause-performed c =
    let told = c.in_ok-told.told in
    told_items c.args.script.now.clients c.args.report.lines told.history told.is_whole
    (subst (λ (cs : List (List What)). IsTold cs c.args.report.lines told.history told.is_whole) c.as_slice.ensures c.in_ok-told.ensures)

pub returns : goal.returns
returns c =
    let told = c.in_ok-told.told in
    c.audit_told.ensures c.args.report.lines c.args.report.looks c.args.report.backups
    (subst (λ (cs : List (List What)). IsTold cs c.args.report.lines told.history told.is_whole) c.as_slice.ensures c.in_ok-told.ensures)
