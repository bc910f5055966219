use Rattle.thor_top.proofs.StageLaws.{prepared_as}
use Rattle.thor_top.proofs.opening.prepared.Goals as goal

pub returns-in-Some-clause-opened : goal.returns-in-Some-clause-opened
returns-in-Some-clause-opened g c = λ images stored.
    prepared_as images c.args.script.now.setup c.args.base.now c.in_ok-opened.field-0 c.in-Some.opened c.run_of-run.result c.both.result c.in-Some.is
    (c.in_ok-opened.ensures.opened images stored) c.both.ensures.made
