use Rattle.mob_flusher.specs.Images.{overlaid}
use Rattle.std.proofs.Common.{Some, ap, ◌∙◌}
use Rattle.repo_format.proofs.Closed.{on_ok}
use Rattle.repo_format.proofs.pages.put_root.Goals as goal
use Rattle.thor_value.specs.declared.values.Obj.{Obj}

pub returns-clause-put : goal.returns-clause-put
returns-clause-put c =
    on_ok c.put_object.result c.put_object.ensures.put (λ put. put ∙ ap (λ (o : Obj). overlaid c.args.page.now c.args.root.now.oref.slot (Some o)) c.in_ok-object.ensures.object)
