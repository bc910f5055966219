use Rattle.law_repo_calls.proofs.Marked.{flush_runs}
use Rattle.repo_site.proofs.Growing.{rests_grow}
use Rattle.repo_site.proofs.happening.flush.Goals as goal

pub returns-clause-runs : goal.returns-clause-runs
returns-clause-runs g c = record { runs = λ b q k. flush_runs b c.args.repo.now c.flush.new.self c.flush.result c.flush.ensures.stands c.flush.ensures.held c.flush.ensures.limit c.flush.ensures.memory c.flush.ensures.trace c.flush.ensures.rests c.flush.ensures.opened }

pub returns-clause-grows : goal.returns-clause-grows
returns-clause-grows g c = record { grows = λ b n k. rests_grow b n c.args.repo.now c.flush.new.self c.flush.result c.flush.ensures.stands c.flush.ensures.rests c.flush.ensures.trace }

pub returns-clause-does : goal.returns-clause-does
returns-clause-does g c = record { answer = c.flush.result; stands = c.flush.ensures.stands; buffer = c.flush.ensures.buffer; oldest = c.flush.ensures.oldest; why = c.flush.ensures.why }
