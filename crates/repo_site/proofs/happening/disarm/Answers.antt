use Rattle.law_repo_calls.proofs.Stepping.{runs_still}
use Rattle.repo_site.proofs.Growing.{disarm_grows}
use Rattle.repo_site.proofs.happening.disarm.Goals as goal

pub returns-clause-runs : goal.returns-clause-runs
returns-clause-runs g c = record { runs = λ b q k. runs_still b c.args.repo.now c.disarm.new.self c.disarm.ensures.held c.disarm.ensures.memory c.disarm.ensures.pending c.disarm.ensures.torn c.disarm.ensures.trace c.disarm.ensures.up c.disarm.ensures.opened }

pub returns-clause-grows : goal.returns-clause-grows
returns-clause-grows g c = record { grows = λ b n k. disarm_grows b n c.args.repo.now c.disarm.new.self c.disarm.ensures.up c.disarm.ensures.torn c.disarm.ensures.pending c.disarm.ensures.trace }
