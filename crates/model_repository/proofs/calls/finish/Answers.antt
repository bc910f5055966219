use Rattle.model_repository.proofs.Taking.{if_up}
use Rattle.model_repository.proofs.Working.{finishes}
use Rattle.std.proofs.Common.{sym}
use Rattle.model_repository.proofs.calls.finish.Goals as goal

pub returns : goal.returns
returns g c = if_up _ _ _ (sym c.if-is_down.ensures) (finishes (g.R.Reads.bases c.args.reader.now c.args.repo) c.args.client c.args.repo c.args.site.now c.take.new.self c.finish-plan.result c.args.verdict.now.tx c.args.verdict.now.commit c.take.result c.take.ensures (rw (c.as_slice.ensures.value, c.tx.ensures, c.commit.ensures) at c.finish-plan.ensures))
