use Rattle.log_entries.specs.declared.entry.Entry.TheVariants.{Prepared}
use Rattle.law_repo_calls.proofs.Asked.{found_shared, prepared_moves, prepared_tells, request_runs}
use Rattle.law_repo_calls.proofs.calls.prepare.Goals as goal

pub returns : goal.returns
returns g c = λ b k sent. request_runs b c.args.repo.now c.prepare.new.self c.args.session c.args.request (Prepared c.args.request) c.prepare.result (found_shared b c.args.repo.now c.args.session c.args.request k sent c.requires) sent.counted c.prepare.ensures.stands c.prepare.ensures.judged c.prepare.ensures.why c.prepare.ensures.held c.prepare.ensures.limit (prepared_moves c.args.repo.now c.prepare.new.self c.args.request c.prepare.result c.prepare.ensures.memory) (prepared_tells c.args.repo.now c.prepare.new.self c.args.request c.prepare.result c.prepare.ensures.memory) c.prepare.ensures.trace c.prepare.ensures.refused c.prepare.ensures.left c.prepare.ensures.opened
