use Rattle.repo_core.specs.Behind.{alone_entry}
use Rattle.law_repo_calls.proofs.Asked.{found_alone, request_runs}
use Rattle.law_repo_calls.proofs.calls.commit_one.Goals as goal

pub returns : goal.returns
returns g c = λ b k sent. request_runs b c.args.repo.now c.commit_one.new.self c.args.session c.args.request (alone_entry c.args.request.kind c.args.request) c.commit_one.result (found_alone b c.args.repo.now c.args.session c.args.request k sent c.requires) sent.counted c.commit_one.ensures.stands c.commit_one.ensures.judged c.commit_one.ensures.why c.commit_one.ensures.held c.commit_one.ensures.limit c.commit_one.ensures.memory c.commit_one.ensures.tells c.commit_one.ensures.trace c.commit_one.ensures.refused c.commit_one.ensures.left c.commit_one.ensures.opened
