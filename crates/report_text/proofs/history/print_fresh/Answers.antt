use Rattle.std.proofs.Common.{arith, append_assoc}
use Rattle.std.proofs.lemmas.Grind.{common_steps}
use Rattle.std.proofs.lemmas.List.Elements.{All-more}
use Rattle.report_text.specs.Fits.{FitsOref}
use Rattle.report_text.proofs.history.print_fresh.Goals as goal

pub loop-oref-preserved : goal.loop-oref-preserved
loop-oref-preserved c = (
  grind (arith, common_steps, append_assoc),
  All-more FitsOref c.args.fresh.now c.loop-oref.oref-index (record { repo = 0; page = 0; slot = 0 }) (omega (arith, c.loop-oref-test.true)) c.loop-oref.invariant.1 c.in_ok-print_oref.ensures.fits,
)
