use Rattle.std.proofs.Common.{arith}
use Rattle.std.proofs.lemmas.Grind.{common_steps}
use Rattle.lang_small_steps.proofs.Typed.{one_more}
use Rattle.lang_small_steps.proofs.parameters.locals_of.Goals as goal

pub loop-place-preserved : goal.loop-place-preserved
loop-place-preserved c = grind (arith, common_steps, one_more c.args.parameters.now c.args.arguments.now c.loop-place.place c.parameter-item.result c.loop-place.locals)
