use Rattle.std.proofs.Common.{◌≡◌, ◌∙◌}
use Rattle.std.proofs.lemmas.List.{set-set}
use Rattle.method_eval.proofs.locals.set_value.Goals as goal

pub returns : goal.returns
returns c =
    rw (c.set.ensures, c.replace-held.ensures.rest, c.replace-held.ensures.item) (set-set c.args.locals.now c.args.place _ _)
