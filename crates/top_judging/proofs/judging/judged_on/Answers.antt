use Rattle.top_judging.proofs.BaseLaws.{classes_few, numbers_few}
use Rattle.top_judging.proofs.judging.judged_on.Goals as goal

pub judge-requires-clause-classes : goal.judge-requires-clause-classes
judge-requires-clause-classes c = classes_few c.args.base c.last_schema.result.now c.last_schema.ensures c.requires.made

pub judge-requires-clause-upgrades : goal.judge-requires-clause-upgrades
judge-requires-clause-upgrades c = numbers_few c.args.base c.last_schema.result.now _ c.last_schema.ensures c.requires.made c.requires.epochs c.requires.within.upgrades
