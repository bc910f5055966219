use Rattle.model_repository.proofs.Taking.{if_up}
use Rattle.model_repository.proofs.Working.{commits}
use Rattle.std.proofs.Common.{sym}
use Rattle.model_repository.proofs.calls.commit_one.Goals as goal

pub returns : goal.returns
returns g c = if_up _ _ _ (sym c.if-is_down.ensures) (commits (g.R.Reads.bases c.args.reader.now c.args.at.repo) c.args.client c.args.at.repo c.args.site.now c.take-2.new.self c.commit_one-plan.result c.args.at.session c.args.request c.take-2.result c.if-request-at.false c.take-2.ensures (rw c.as_slice.ensures.value at c.commit_one-plan.ensures))
