use Rattle.law_repo_calls.proofs.Marked.{fetch_runs}
use Rattle.law_repo_calls.proofs.Restarts.{stands_on}
use Rattle.repo_site.proofs.SessionWorks.{fetch_works}
use Rattle.repo_site.proofs.made.fetch.Goals as goal

pub returns-clause-runs : goal.returns-clause-runs
returns-clause-runs g c = record { runs = λ b q k. fetch_runs b c.args.repo.now c.fetch.new.self c.args.session c.args.page c.args.upto c.fetch.result c.requires.within c.fetch.ensures.stands c.fetch.ensures.live c.fetch.ensures.held c.fetch.ensures.limit c.fetch.ensures.sent c.fetch.ensures.trace c.fetch.ensures.refused c.fetch.ensures.left c.fetch.ensures.opened }

pub returns-clause-works : goal.returns-clause-works
returns-clause-works g c = record { works = λ b u q k m. fetch_works b c.args.repo.now c.fetch.new.self u k (stands_on b c.args.repo.now c.fetch.new.self k (fetch_runs b c.args.repo.now c.fetch.new.self c.args.session c.args.page c.args.upto c.fetch.result c.requires.within c.fetch.ensures.stands c.fetch.ensures.live c.fetch.ensures.held c.fetch.ensures.limit c.fetch.ensures.sent c.fetch.ensures.trace c.fetch.ensures.refused c.fetch.ensures.left c.fetch.ensures.opened)) c.requires.up m c.args.session c.args.page c.args.upto _ c.fetch.result c.fetch.ensures.stands c.fetch.ensures.live c.fetch.ensures.trace c.fetch.ensures.refused c.fetch.ensures.left c.fetch.ensures.why }
