use Rattle.law_repo_calls.proofs.Marked.{checkpoint_runs}
use Rattle.repo_site.proofs.Growing.{rests_grow}
use Rattle.repo_site.proofs.happening.checkpoint.Goals as goal

pub returns-clause-runs : goal.returns-clause-runs
returns-clause-runs g c = record { runs = λ b q k. checkpoint_runs b c.args.repo.now c.checkpoint.new.self c.checkpoint.result k c.checkpoint.ensures.stands c.checkpoint.ensures.memory c.checkpoint.ensures.trace c.checkpoint.ensures.held c.checkpoint.ensures.rests c.checkpoint.ensures.opened }

pub returns-clause-grows : goal.returns-clause-grows
returns-clause-grows g c = record { grows = λ b n k. rests_grow b n c.args.repo.now c.checkpoint.new.self c.checkpoint.result c.checkpoint.ensures.stands c.checkpoint.ensures.rests c.checkpoint.ensures.trace }
