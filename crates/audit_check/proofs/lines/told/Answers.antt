use Rattle.std.proofs.Common.{Some, ap, ◌∙◌, sym}
use Rattle.audit_check.proofs.Told.{next_one, told_more}
use Rattle.audit_check.proofs.lines.told.Goals as goal

pub loop-line-preserved : goal.loop-line-preserved
loop-line-preserved c = (
  next_one c.loop-line.yielded _ c.next.new.self.rest.items c.args.lines c.in-Some.line c.loop-line.invariant.0 c.in-Some.ensures.steps.0,
  told_more c.args.clients.now c.loop-line.yielded c.in-Some.line c.loop-line.history c.in-Some-2.did c.loop-line.invariant.1 (sym c.in-Some-2.is ∙ c.in_ok-did.ensures) ∙ ap Some (sym c.in_ok-push-in-Some-2.ensures.ok),
)
