use Rattle.top_judging.proofs.StageLaws.{stored_as}
use Rattle.top_judging.proofs.stored.store_of.Goals as goal

pub opened_store-requires : goal.opened_store-requires
opened_store-requires g c = c.requires.made.few 0

pub returns-in-None-clause-opened : goal.returns-in-None-clause-opened
returns-in-None-clause-opened g c = λ images stored.
    stored_as images c.args.script.now.setup c.args.base.now c.stored.result c.in-None.is (c.stored.ensures.opened images stored)
