use Rattle.std.proofs.Common.{ap}
use Rattle.class_defs.specs.Stored.{in_epoch}
use Rattle.lazy_transform.proofs.Once.{brought_is}
use Rattle.lazy_transform.proofs.transform.bring.Goals as goal

pub returns-clause-stored : goal.returns-clause-stored
returns-clause-stored c =
    brought_is c.args.schemas.now c.args.parts.now.objects c.args.to c.args.obj.now _ (ap (in_epoch c.args.to) c.in_ok-class.ensures.value)
