use Rattle.law_repo_calls.proofs.Marked.{stop_runs}
use Rattle.repo_site.proofs.Growing.{stop_grows}
use Rattle.repo_site.proofs.happening.stop_after.Goals as goal

pub returns-clause-runs : goal.returns-clause-runs
returns-clause-runs g c = record { runs = λ b q k. stop_runs b c.args.repo.now c.stop_after.new.self c.args.calls c.stop_after.ensures.up c.stop_after.ensures.pending c.stop_after.ensures.none c.stop_after.ensures.whole c.stop_after.ensures.torn c.stop_after.ensures.opened c.stop_after.ensures.held c.stop_after.ensures.memory c.stop_after.ensures.trace }

pub returns-clause-grows : goal.returns-clause-grows
returns-clause-grows g c = record { grows = λ b n k. stop_grows b n c.args.repo.now c.stop_after.new.self c.args.calls c.stop_after.ensures.up c.stop_after.ensures.pending c.stop_after.ensures.none c.stop_after.ensures.whole c.stop_after.ensures.torn c.stop_after.ensures.trace }

pub returns-clause-does : goal.returns-clause-does
returns-clause-does g c = record { up = c.stop_after.ensures.up; trace = c.stop_after.ensures.trace }
