use Rattle.law_repo_calls.proofs.Restarts.{stands_on}
use Rattle.law_repo_calls.proofs.Stepping.{runs_same}
use Rattle.repo_site.proofs.RequestWorks.{ask_works}
use Rattle.repo_site.proofs.Standing.{same_number}
use Rattle.std.proofs.Common.{◌∙◌}
use Rattle.repo_site.proofs.made.ask.Goals as goal

pub returns-clause-runs : goal.returns-clause-runs
returns-clause-runs g c = record { runs = λ b q k. runs_same b c.args.repo.now c.ask.new.self c.ask.ensures.same }

pub returns-clause-works : goal.returns-clause-works
returns-clause-works g c = record { works = λ b u q k m. ask_works b c.args.repo.now c.ask.new.self u k (stands_on b c.args.repo.now c.ask.new.self k (runs_same b c.args.repo.now c.ask.new.self c.ask.ensures.same)) c.requires.up m c.args.tx c.ask.result (c.requires.here ∙ same_number b c.args.repo.now k c.requires.up) c.ask.ensures.same c.ask.ensures.stands c.ask.ensures.why c.ask.ensures.answer (λ e. c.ask.ensures.undecided e c.requires.here) }
