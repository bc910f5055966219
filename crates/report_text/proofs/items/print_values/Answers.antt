use Rattle.std.proofs.Common.{arith, append_assoc, FitsSigned, pos, rules}
use Rattle.std.specs.Int.{w64}
use Rattle.std.proofs.lemmas.Grind.{common_steps}
use Rattle.std.proofs.lemmas.List.Elements.{All-more}
use Rattle.report_text.proofs.items.print_values.Goals as goal

pub loop-value-preserved : goal.loop-value-preserved
loop-value-preserved c = (
  grind (arith, common_steps, append_assoc),
  All-more (FitsSigned w64) c.args.values.now c.loop-value.value-index (pos 0) (omega (arith, c.loop-value-test.true)) c.loop-value.invariant.1 (search rules),
)
