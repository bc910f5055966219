use Rattle.model_repository.proofs.Taking.{if_up}
use Rattle.model_repository.proofs.Working.{grants}
use Rattle.std.proofs.Common.{sym}
use Rattle.model_repository.proofs.calls.grant.Goals as goal

pub returns : goal.returns
returns g c = if_up _ _ _ (sym c.if-is_down.ensures) (grants (g.R.Reads.bases c.args.reader.now c.args.at.repo) c.args.client c.args.at.repo c.args.site.now c.put.new.self c.grant-plan.result c.args.at.session c.put.result (c.put.ensures c.args.client) (rw c.as_slice.ensures.value at c.grant-plan.ensures))
