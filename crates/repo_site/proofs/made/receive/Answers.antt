use Rattle.law_repo_calls.proofs.Marked.{receive_runs}
use Rattle.law_repo_calls.proofs.Restarts.{stands_on}
use Rattle.repo_site.proofs.SessionWorks.{receive_works}
use Rattle.repo_site.proofs.made.receive.Goals as goal

pub returns-clause-runs : goal.returns-clause-runs
returns-clause-runs g c = record { runs = λ b q k. receive_runs b c.args.repo.now c.receive.new.self c.args.session c.receive.result c.receive.ensures.stands c.receive.ensures.live c.receive.ensures.held c.receive.ensures.message c.receive.ensures.rest c.receive.ensures.trace c.receive.ensures.refused c.receive.ensures.left c.receive.ensures.opened }

pub returns-clause-works : goal.returns-clause-works
returns-clause-works g c = record { works = λ b u q k m. receive_works b c.args.repo.now c.receive.new.self u k (stands_on b c.args.repo.now c.receive.new.self k (receive_runs b c.args.repo.now c.receive.new.self c.args.session c.receive.result c.receive.ensures.stands c.receive.ensures.live c.receive.ensures.held c.receive.ensures.message c.receive.ensures.rest c.receive.ensures.trace c.receive.ensures.refused c.receive.ensures.left c.receive.ensures.opened)) c.requires.up m c.args.session c.receive.result c.receive.ensures.stands c.receive.ensures.live c.receive.ensures.message c.receive.ensures.trace c.receive.ensures.refused c.receive.ensures.left c.receive.ensures.why }
