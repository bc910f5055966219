use Rattle.law_repo_calls.proofs.Marked.{draw_runs}
use Rattle.law_repo_calls.proofs.Restarts.{stands_on}
use Rattle.repo_site.proofs.SessionWorks.{draw_works}
use Rattle.repo_site.proofs.made.draw.Goals as goal

pub returns-clause-runs : goal.returns-clause-runs
returns-clause-runs g c = record { runs = λ b q k. draw_runs b c.args.repo.now c.draw.new.self c.args.session c.args.floor c.draw.result c.draw.ensures.stands c.draw.ensures.live c.draw.ensures.held c.draw.ensures.later c.draw.ensures.below c.draw.ensures.repo c.draw.ensures.life c.draw.ensures.drawn c.draw.ensures.trace c.draw.ensures.why c.draw.ensures.refused c.draw.ensures.left c.draw.ensures.opened }

pub returns-clause-works : goal.returns-clause-works
returns-clause-works g c = record { works = λ b u q k m. draw_works b c.args.repo.now c.draw.new.self u k (stands_on b c.args.repo.now c.draw.new.self k (draw_runs b c.args.repo.now c.draw.new.self c.args.session c.args.floor c.draw.result c.draw.ensures.stands c.draw.ensures.live c.draw.ensures.held c.draw.ensures.later c.draw.ensures.below c.draw.ensures.repo c.draw.ensures.life c.draw.ensures.drawn c.draw.ensures.trace c.draw.ensures.why c.draw.ensures.refused c.draw.ensures.left c.draw.ensures.opened)) c.requires.up m c.args.session c.args.floor _ c.draw.result c.draw.ensures.stands c.draw.ensures.above c.draw.ensures.trace c.draw.ensures.refused c.draw.ensures.left c.draw.ensures.only }
