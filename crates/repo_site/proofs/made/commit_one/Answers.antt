use Rattle.law_repo_calls.proofs.Asked.{request_runs}
use Rattle.law_repo_calls.proofs.Restarts.{stands_on}
use Rattle.repo_core.specs.Behind.{alone_entry}
use Rattle.repo_site.proofs.Finding.{found_if_alone, verdict_if}
use Rattle.repo_site.proofs.RequestWorks.{commit_works, only_down}
use Rattle.std.proofs.Common.{true}
use Rattle.repo_site.proofs.made.commit_one.Goals as goal

pub returns-clause-runs : goal.returns-clause-runs
returns-clause-runs g c = record { runs = λ b q k. request_runs b c.args.repo.now c.commit_one.new.self c.args.session c.args.request (alone_entry c.args.request.kind c.args.request) c.commit_one.result (found_if_alone b c.args.repo.now q.0 c.args.repos c.args.session c.args.request q.1 k c.requires.may c.requires.own c.requires.counted c.requires.tested) c.requires.counted c.commit_one.ensures.stands c.commit_one.ensures.judged c.commit_one.ensures.why c.commit_one.ensures.held c.commit_one.ensures.limit c.commit_one.ensures.memory c.commit_one.ensures.tells c.commit_one.ensures.trace c.commit_one.ensures.refused c.commit_one.ensures.left c.commit_one.ensures.opened }

pub returns-clause-works : goal.returns-clause-works
returns-clause-works g c = record { works = λ b u q k m. commit_works b c.args.repo.now c.commit_one.new.self u k (stands_on b c.args.repo.now c.commit_one.new.self k (request_runs b c.args.repo.now c.commit_one.new.self c.args.session c.args.request (alone_entry c.args.request.kind c.args.request) c.commit_one.result (found_if_alone b c.args.repo.now q.0 c.args.repos c.args.session c.args.request q.1 k c.requires.may c.requires.own c.requires.counted c.requires.tested) c.requires.counted c.commit_one.ensures.stands c.commit_one.ensures.judged c.commit_one.ensures.why c.commit_one.ensures.held c.commit_one.ensures.limit c.commit_one.ensures.memory c.commit_one.ensures.tells c.commit_one.ensures.trace c.commit_one.ensures.refused c.commit_one.ensures.left c.commit_one.ensures.opened)) c.requires.up m c.args.session c.args.request c.commit_one.result (verdict_if b c.args.repo.now q.0 c.args.repos c.args.session c.args.request true q.1 k c.requires.up c.requires.may c.requires.own c.requires.counted c.requires.tested) c.commit_one.ensures.stands c.commit_one.ensures.judged c.commit_one.ensures.place c.commit_one.ensures.trace c.commit_one.ensures.refused c.commit_one.ensures.left (only_down c.args.repo.now _ _ c.commit_one.result c.commit_one.ensures.only c.requires.up) c.commit_one.ensures.damaged }
