use Rattle.law_repo_calls.proofs.Marked.{connect_runs}
use Rattle.law_repo_calls.proofs.Restarts.{stands_on}
use Rattle.repo_site.proofs.SessionWorks.{connect_works}
use Rattle.repo_site.proofs.made.connect.Goals as goal

pub returns-clause-runs : goal.returns-clause-runs
returns-clause-runs g c = record { runs = λ b q k. connect_runs b c.args.repo.now c.connect.new.self c.args.client c.connect.result c.connect.ensures.stands c.connect.ensures.held c.connect.ensures.trace c.connect.ensures.refused c.connect.ensures.left c.connect.ensures.opened c.connect.ensures.begun c.connect.ensures.number c.connect.ensures.counted }

pub returns-clause-works : goal.returns-clause-works
returns-clause-works g c = record { works = λ b u q k m. connect_works b c.args.repo.now c.connect.new.self u k (stands_on b c.args.repo.now c.connect.new.self k (connect_runs b c.args.repo.now c.connect.new.self c.args.client c.connect.result c.connect.ensures.stands c.connect.ensures.held c.connect.ensures.trace c.connect.ensures.refused c.connect.ensures.left c.connect.ensures.opened c.connect.ensures.begun c.connect.ensures.number c.connect.ensures.counted)) c.requires.up m c.args.client c.connect.result c.requires.counted c.connect.ensures.stands c.connect.ensures.trace c.connect.ensures.refused c.connect.ensures.left c.connect.ensures.why c.connect.ensures.number c.connect.ensures.epoch c.connect.ensures.threshold c.connect.ensures.place c.connect.ensures.upgrades }
