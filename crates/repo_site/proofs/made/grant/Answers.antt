use Rattle.law_repo_calls.proofs.Marked.{grant_runs}
use Rattle.law_repo_calls.proofs.Restarts.{stands_on}
use Rattle.repo_site.proofs.SessionWorks.{grant_works}
use Rattle.repo_site.proofs.made.grant.Goals as goal

pub returns-clause-runs : goal.returns-clause-runs
returns-clause-runs g c = record { runs = λ b q k. grant_runs b c.args.repo.now c.grant.new.self c.args.session c.grant.result c.grant.ensures.stands c.grant.ensures.live c.grant.ensures.held c.grant.ensures.below c.grant.ensures.sent c.grant.ensures.trace c.grant.ensures.why c.grant.ensures.refused c.grant.ensures.left c.grant.ensures.opened }

pub returns-clause-works : goal.returns-clause-works
returns-clause-works g c = record { works = λ b u q k m. grant_works b c.args.repo.now c.grant.new.self u k (stands_on b c.args.repo.now c.grant.new.self k (grant_runs b c.args.repo.now c.grant.new.self c.args.session c.grant.result c.grant.ensures.stands c.grant.ensures.live c.grant.ensures.held c.grant.ensures.below c.grant.ensures.sent c.grant.ensures.trace c.grant.ensures.why c.grant.ensures.refused c.grant.ensures.left c.grant.ensures.opened)) c.requires.up m c.args.session _ c.grant.result c.grant.ensures.stands c.grant.ensures.live c.grant.ensures.below c.grant.ensures.trace c.grant.ensures.refused c.grant.ensures.left c.grant.ensures.only }
