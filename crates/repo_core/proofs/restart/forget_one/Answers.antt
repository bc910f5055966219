use Rattle.repo_core.proofs.Letting.{one_goes_in}
use Rattle.repo_durable.specs.Kept.{held_of}
use Rattle.repo_core.proofs.restart.forget_one.Goals as goal

pub returns-clause-go : goal.returns-clause-go
returns-clause-go g c = one_goes_in c.args.life (held_of c.args.stable.now) (held_of c.forget.new.self) c.args.tx c.forget.ensures.held c.requires.earlier
