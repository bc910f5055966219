use Rattle.std.proofs.Common.{arith, append_assoc, subst}
use Rattle.std.proofs.lemmas.Grind.{common_steps}
use Rattle.std.proofs.lemmas.List.Elements.{All-more}
use Rattle.thor_value.specs.Spelling.{ValueFits}
use Rattle.client_cache.proofs.spelled.spells_all.Goals as goal

pub loop-value-preserved : goal.loop-value-preserved
loop-value-preserved c = (
  grind (arith, common_steps, append_assoc),
  All-more ValueFits c.args.values.now c.loop-value.value-index c.value-item.result (omega (arith, c.loop-value-test.true)) c.loop-value.invariant.1 (subst ValueFits c.value-item.is c.in-Some.ensures.1),
)
