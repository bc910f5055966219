use Rattle.model_repository.proofs.Taking.{if_up}
use Rattle.model_repository.proofs.Working.{decides}
use Rattle.std.proofs.Common.{sym}
use Rattle.model_repository.proofs.calls.decide.Goals as goal

pub returns : goal.returns
returns g c = if_up _ _ _ (sym c.if-is_down.ensures) (decides (g.R.Reads.bases c.args.reader.now c.args.at.repo) c.args.client c.args.at.repo c.args.site.now c.take.new.self c.decide-plan.result c.args.at.session c.args.tx c.args.commit c.take.result c.take.ensures (rw c.as_slice.ensures.value at c.decide-plan.ensures))
