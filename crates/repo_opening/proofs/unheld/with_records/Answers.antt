use Rattle.std.proofs.Common.{Some}
use Rattle.repo_opening.proofs.SaidPages.{sides_next}
use Rattle.repo_opening.proofs.unheld.with_records.Goals as goal

pub loop-spelled-preserved : goal.loop-spelled-preserved
loop-spelled-preserved c = sides_next (Some c.args.installed) c.args.records.now c.loop-spelled.spelled-index c.spelled-item.result c.loop-spelled.sides c.in_ok-sides.sides c.loop-spelled-test.true c.spelled-item.is c.loop-spelled.invariant c.in_ok-sides.ensures
