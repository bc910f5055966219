use Rattle.std.proofs.Common.{arith, append_assoc, subst, All}
use Rattle.std.proofs.lemmas.Grind.{common_steps}
use Rattle.report_text.specs.Report.{report_text}
use Rattle.report_text.specs.Shown.{FitsItem, FitsLine}
use Rattle.report_text.proofs.Reported.{report_tells}
use Rattle.report_text.proofs.print.print_report.Goals as goal

pub returns-clause-tells : goal.returns-clause-tells
unfolding report_text
returns-clause-tells c s store legal =
    report_tells s c.args.ends.now c.args.history.now store c.from_vec.result legal
    (record {
      items = subst (All FitsItem) c.as_slice.ensures c.in_ok-print_items.ensures.fits;
      lines = subst (All FitsLine) c.as_slice-2.ensures c.in_ok-print_history.ensures.fits;
      count = omega arith;
    })
    (grind (arith, common_steps, append_assoc))
