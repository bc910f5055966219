use Rattle.law_repo_calls.proofs.Decisions.{decide_runs}
use Rattle.law_repo_calls.proofs.Restarts.{stands_on}
use Rattle.repo_site.proofs.RequestWorks.{decide_works}
use Rattle.repo_site.proofs.Standing.{same_number}
use Rattle.std.proofs.Common.{◌∙◌}
use Rattle.repo_site.proofs.made.decide.Goals as goal

pub returns-clause-runs : goal.returns-clause-runs
returns-clause-runs g c = record { runs = λ b q k. decide_runs b c.args.repo.now c.decide.new.self c.args.session c.args.tx c.args.commit c.decide.result k (c.requires.here ∙ same_number b c.args.repo.now k c.requires.up) c.requires.counted c.decide.ensures.stands c.decide.ensures.unended c.decide.ensures.held c.decide.ensures.limit c.decide.ensures.memory c.decide.ensures.tells c.decide.ensures.same c.decide.ensures.trace c.decide.ensures.refused c.decide.ensures.left c.decide.ensures.opened }

pub returns-clause-works : goal.returns-clause-works
returns-clause-works g c = record { works = λ b u q k m. decide_works b c.args.repo.now c.decide.new.self u k (stands_on b c.args.repo.now c.decide.new.self k (decide_runs b c.args.repo.now c.decide.new.self c.args.session c.args.tx c.args.commit c.decide.result k (c.requires.here ∙ same_number b c.args.repo.now k c.requires.up) c.requires.counted c.decide.ensures.stands c.decide.ensures.unended c.decide.ensures.held c.decide.ensures.limit c.decide.ensures.memory c.decide.ensures.tells c.decide.ensures.same c.decide.ensures.trace c.decide.ensures.refused c.decide.ensures.left c.decide.ensures.opened)) c.requires.up m c.args.session c.args.tx c.args.commit _ c.decide.result (c.requires.here ∙ same_number b c.args.repo.now k c.requires.up) c.requires.settled c.decide.ensures.stands c.decide.ensures.unended c.decide.ensures.trace c.decide.ensures.verdict c.decide.ensures.refused c.decide.ensures.left c.decide.ensures.why c.decide.ensures.damaged }
