use Rattle.law_repo_calls.proofs.Marked.{forget_runs}
use Rattle.law_repo_calls.proofs.Restarts.{stands_on}
use Rattle.repo_site.proofs.RequestWorks.{forget_works}
use Rattle.repo_site.proofs.Standing.{was_kept}
use Rattle.repo_site.proofs.made.forget.Goals as goal

pub returns-clause-runs : goal.returns-clause-runs
returns-clause-runs g c = record { runs = λ b q k. forget_runs b c.args.repo.now c.forget.new.self c.args.tx c.forget.result (was_kept b c.args.repo.now c.args.tx k c.requires.up c.requires.kept c.requires.here) c.forget.ensures.stands c.forget.ensures.memory c.forget.ensures.held c.forget.ensures.trace c.forget.ensures.refused c.forget.ensures.left c.forget.ensures.opened }

pub returns-clause-works : goal.returns-clause-works
returns-clause-works g c = record { works = λ b u q k m. forget_works b c.args.repo.now c.forget.new.self u k (stands_on b c.args.repo.now c.forget.new.self k (forget_runs b c.args.repo.now c.forget.new.self c.args.tx c.forget.result (was_kept b c.args.repo.now c.args.tx k c.requires.up c.requires.kept c.requires.here) c.forget.ensures.stands c.forget.ensures.memory c.forget.ensures.held c.forget.ensures.trace c.forget.ensures.refused c.forget.ensures.left c.forget.ensures.opened)) c.requires.up m c.args.tx c.forget.result c.forget.ensures.stands c.forget.ensures.trace c.forget.ensures.refused c.forget.ensures.left c.forget.ensures.why }
