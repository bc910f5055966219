use Rattle.law_repo_calls.proofs.Restarts.{restart_runs}
use Rattle.repo_site.proofs.Growing.{restart_grows}
use Rattle.repo_site.proofs.Restarts.{comes_back}
use Rattle.repo_site.proofs.happening.restart.Goals as goal

pub returns-clause-runs : goal.returns-clause-runs
returns-clause-runs g c = record { runs = λ b q k. restart_runs b c.args.repo.now c.restart.new.self c.restart.result k c.restart.ensures.up c.restart.ensures.down c.restart.ensures.ended c.restart.ensures.comes_up c.restart.ensures.stays_down c.restart.ensures.opened }

pub returns-clause-grows : goal.returns-clause-grows
returns-clause-grows g c = record { grows = λ b n k. restart_grows b n c.args.repo.now c.restart.new.self k c.restart.result c.restart.ensures.up c.restart.ensures.down c.restart.ensures.ended c.restart.ensures.comes_up c.restart.ensures.stays_down }

pub returns-clause-comes : goal.returns-clause-comes
returns-clause-comes g c = comes_back c.args.repo.now c.restart.new.self c.restart.result c.restart.ensures.up c.restart.ensures.fault c.restart.ensures.stopped c.restart.ensures.damaged
