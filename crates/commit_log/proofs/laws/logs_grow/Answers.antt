use Rattle.commit_log.proofs.Holding.{state_first, state_more}
use Rattle.commit_log.proofs.laws.logs_grow.Goals as goal

pub returns-clause-step : goal.returns-clause-step
returns-clause-step c = state_more

pub returns-clause-first : goal.returns-clause-first
returns-clause-first c = state_first
