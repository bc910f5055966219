use Rattle.std.proofs.Common.{arith, append_assoc, subst}
use Rattle.std.proofs.lemmas.Grind.{common_steps}
use Rattle.std.proofs.lemmas.List.Elements.{All-more}
use Rattle.report_text.specs.Shown.{FitsItem}
use Rattle.report_text.proofs.print.print_items.Goals as goal

pub loop-ended-preserved : goal.loop-ended-preserved
loop-ended-preserved c = (
  grind (arith, common_steps, append_assoc),
  All-more FitsItem c.args.ends.now c.loop-ended.ended-index c.ended-item.result (omega (arith, c.loop-ended-test.true)) c.loop-ended.invariant.1
      (subst FitsItem c.ended-item.is c.in_ok-print_item.ensures.fits),
)
