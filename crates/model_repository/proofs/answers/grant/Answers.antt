use Rattle.model_repository.proofs.ByReading.{grants, is_step}
use Rattle.model_reading.specs.Items.{trace_of}
use Rattle.model_reading.specs.Opening.{base_of}
use Rattle.model_repository.proofs.answers.grant.Goals as goal

pub returns : goal.returns
returns c = is_step _ _ _ _ (grants (base_of c.args.opening.now) c.args.session (trace_of c.args.items.now) c.in_ok-reading.reading c.in_ok-reading.ensures) (c.in_ok-grant_by.ensures c.args.items.now)
