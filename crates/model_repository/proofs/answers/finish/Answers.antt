use Rattle.model_repository.proofs.ByReading.{finishes, is_step}
use Rattle.model_reading.specs.Items.{trace_of}
use Rattle.model_reading.specs.Opening.{base_of}
use Rattle.model_repository.proofs.answers.finish.Goals as goal

pub returns : goal.returns
returns c = is_step _ _ _ _ (finishes (base_of c.args.opening.now) 0 (trace_of c.args.items.now) c.in_ok-reading.reading c.in_ok-reading.ensures c.args.tx c.args.commit) (c.finish_by.ensures c.args.items.now)
