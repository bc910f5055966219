use Rattle.model_repository.proofs.Taking.{if_up}
use Rattle.model_repository.proofs.Working.{prepares}
use Rattle.std.proofs.Common.{sym}
use Rattle.model_repository.proofs.calls.prepare.Goals as goal

pub returns : goal.returns
returns g c = if_up _ _ _ (sym c.if-is_down.ensures) (prepares (g.R.Reads.bases c.args.reader.now c.args.at.repo) c.args.client c.args.at.repo c.args.site.now c.take-2.new.self c.prepare-plan.result c.args.at.session c.args.request c.take-2.result c.if-request-at.false c.take-2.ensures (rw c.as_slice.ensures.value at c.prepare-plan.ensures))
