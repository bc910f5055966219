use Rattle.repo_durable.proofs.Saying.{said_pending}
use Rattle.repo_durable.proofs.stable.Stable.pend.Goals as goal

pub returns-clause-says : goal.returns-clause-says
returns-clause-says g c = λ ahead. said_pending g.P.Parts.disks c.args.self.now c.set_phase.new.self c.args.entry c.set_phase.ensures c.requires.kept ahead
