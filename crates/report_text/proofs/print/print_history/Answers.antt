use Rattle.std.proofs.Common.{arith, append_assoc, subst}
use Rattle.std.proofs.lemmas.Grind.{common_steps}
use Rattle.std.proofs.lemmas.List.Elements.{All-more}
use Rattle.report_text.specs.Shown.{FitsLine}
use Rattle.report_text.proofs.print.print_history.Goals as goal

pub loop-entry-preserved : goal.loop-entry-preserved
loop-entry-preserved c = (
  grind (arith, common_steps, append_assoc),
  All-more FitsLine c.args.history.now c.loop-entry.entry-index c.entry-item.result (omega (arith, c.loop-entry-test.true)) c.loop-entry.invariant.1
      (subst FitsLine c.entry-item.is c.in_ok-print_entry.ensures.fits),
)
