use Rattle.law_repo_calls.proofs.Decisions.{finish_runs}
use Rattle.law_repo_calls.proofs.Restarts.{stands_on}
use Rattle.repo_site.proofs.RequestWorks.{finish_works}
use Rattle.repo_site.proofs.Standing.{elsewhere}
use Rattle.repo_site.proofs.made.finish.Goals as goal

pub returns-clause-runs : goal.returns-clause-runs
returns-clause-runs g c = record { runs = λ b q k. finish_runs b c.args.repo.now c.finish.new.self c.args.verdict.now c.finish.result k (elsewhere b c.args.repo.now c.args.verdict.now.tx k c.requires.up c.requires.elsewhere) c.requires.counted c.finish.ensures.stands c.finish.ensures.held c.finish.ensures.limit c.finish.ensures.memory c.finish.ensures.tells c.finish.ensures.same c.finish.ensures.trace c.finish.ensures.refused c.finish.ensures.left c.finish.ensures.opened }

pub returns-clause-works : goal.returns-clause-works
returns-clause-works g c = record { works = λ b u q k m. finish_works b c.args.repo.now c.finish.new.self u k (stands_on b c.args.repo.now c.finish.new.self k (finish_runs b c.args.repo.now c.finish.new.self c.args.verdict.now c.finish.result k (elsewhere b c.args.repo.now c.args.verdict.now.tx k c.requires.up c.requires.elsewhere) c.requires.counted c.finish.ensures.stands c.finish.ensures.held c.finish.ensures.limit c.finish.ensures.memory c.finish.ensures.tells c.finish.ensures.same c.finish.ensures.trace c.finish.ensures.refused c.finish.ensures.left c.finish.ensures.opened)) c.requires.up m c.args.verdict.now.tx c.args.verdict.now.commit _ c.finish.result c.finish.ensures.stands c.finish.ensures.place c.finish.ensures.trace c.finish.ensures.refused c.finish.ensures.left c.finish.ensures.why c.finish.ensures.damaged }
