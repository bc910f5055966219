use Rattle.law_repo_calls.proofs.Marked.{stop_runs}
use Rattle.repo_site.proofs.Failing.{halted_so}
use Rattle.repo_site.proofs.calls.fail.Goals as goal

pub returns-clause-runs : goal.returns-clause-runs
returns-clause-runs g c = record { runs = λ b q k. stop_runs b c.args.repo.now c.stop_after.new.self 0 c.stop_after.ensures.up c.stop_after.ensures.pending c.stop_after.ensures.none c.stop_after.ensures.whole c.stop_after.ensures.torn c.stop_after.ensures.opened c.stop_after.ensures.held c.stop_after.ensures.memory c.stop_after.ensures.trace }

pub returns-clause-halts : goal.returns-clause-halts
returns-clause-halts g c = halted_so c.args.repo.now c.stop_after.new.self c.stop_after.ensures.up (c.stop_after.ensures.whole c.requires.up) (c.stop_after.ensures.none c.requires.up) c.stop_after.ensures.trace
