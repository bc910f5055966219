use Rattle.law_repo_calls.proofs.Asked.{prepared_moves, prepared_tells, request_runs}
use Rattle.law_repo_calls.proofs.Restarts.{stands_on}
use Rattle.log_entries.specs.declared.entry.Entry.TheVariants.{Prepared}
use Rattle.repo_site.proofs.Finding.{found_if_shared, verdict_if}
use Rattle.repo_site.proofs.RequestWorks.{only_down, prepare_works}
use Rattle.std.proofs.Common.{false}
use Rattle.repo_site.proofs.made.prepare.Goals as goal

pub returns-clause-runs : goal.returns-clause-runs
returns-clause-runs g c = record { runs = λ b q k. request_runs b c.args.repo.now c.prepare.new.self c.args.session c.args.request (Prepared c.args.request) c.prepare.result (found_if_shared b c.args.repo.now q.0 c.args.repos c.args.session c.args.request q.1 k c.requires.may c.requires.own c.requires.counted c.requires.tested) c.requires.counted c.prepare.ensures.stands c.prepare.ensures.judged c.prepare.ensures.why c.prepare.ensures.held c.prepare.ensures.limit (prepared_moves c.args.repo.now c.prepare.new.self c.args.request c.prepare.result c.prepare.ensures.memory) (prepared_tells c.args.repo.now c.prepare.new.self c.args.request c.prepare.result c.prepare.ensures.memory) c.prepare.ensures.trace c.prepare.ensures.refused c.prepare.ensures.left c.prepare.ensures.opened }

pub returns-clause-works : goal.returns-clause-works
returns-clause-works g c = record { works = λ b u q k m. prepare_works b c.args.repo.now c.prepare.new.self u k (stands_on b c.args.repo.now c.prepare.new.self k (request_runs b c.args.repo.now c.prepare.new.self c.args.session c.args.request (Prepared c.args.request) c.prepare.result (found_if_shared b c.args.repo.now q.0 c.args.repos c.args.session c.args.request q.1 k c.requires.may c.requires.own c.requires.counted c.requires.tested) c.requires.counted c.prepare.ensures.stands c.prepare.ensures.judged c.prepare.ensures.why c.prepare.ensures.held c.prepare.ensures.limit (prepared_moves c.args.repo.now c.prepare.new.self c.args.request c.prepare.result c.prepare.ensures.memory) (prepared_tells c.args.repo.now c.prepare.new.self c.args.request c.prepare.result c.prepare.ensures.memory) c.prepare.ensures.trace c.prepare.ensures.refused c.prepare.ensures.left c.prepare.ensures.opened)) c.requires.up m c.args.session c.args.request c.prepare.result (verdict_if b c.args.repo.now q.0 c.args.repos c.args.session c.args.request false q.1 k c.requires.up c.requires.may c.requires.own c.requires.counted c.requires.tested) c.prepare.ensures.stands c.prepare.ensures.judged c.prepare.ensures.place c.prepare.ensures.trace c.prepare.ensures.refused c.prepare.ensures.left (only_down c.args.repo.now _ _ c.prepare.result c.prepare.ensures.only c.requires.up) c.prepare.ensures.damaged }
