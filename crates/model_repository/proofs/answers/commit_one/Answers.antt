use Rattle.model_repository.proofs.ByReading.{is_step, requests_as}
use Rattle.client_port.specs.Works.{alone_entry}
use Rattle.model_reading.specs.Items.{trace_of}
use Rattle.model_reading.specs.Opening.{base_of}
use Rattle.model_repository.proofs.answers.commit_one.Goals as goal

pub returns : goal.returns
returns c = is_step _ _ _ _ (requests_as (base_of c.args.opening.now) c.args.session (trace_of c.args.items.now) c.in_ok-reading.reading c.in_ok-reading.ensures c.args.request (alone_entry c.args.request) c.count.result c.in_ok-refusal.refusal c.count.ensures c.in_ok-refusal.ensures) (c.in_ok-committed.ensures c.args.items.now)
