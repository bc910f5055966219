use Rattle.model_repository.specs.Sites.{trace_in}
use Rattle.model_repository.proofs.Taking.{if_up}
use Rattle.model_repository.proofs.Working.{receives}
use Rattle.std.proofs.Common.{sym}
use Rattle.model_repository.proofs.calls.receive.Goals as goal

pub returns : goal.returns
returns g c = if_up _ _ _ (sym c.if-is_down.ensures) (receives (g.R.Reads.bases c.args.reader.now c.args.at.repo) c.args.client c.args.at.repo c.args.site.now c.put.new.self c.receive-plan.result (g.R.Reads.pages c.args.reader.now c.args.at.repo (trace_in c.args.site.now)) (g.R.Reads.texts c.args.reader.now c.args.at.repo (trace_in c.args.site.now)) c.args.at.session c.put.result (c.put.ensures c.args.client) (rw c.as_slice.ensures.value at c.receive-plan.ensures))
