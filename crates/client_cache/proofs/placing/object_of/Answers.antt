use Rattle.client_cache.proofs.Brought.{too_few}
use Rattle.client_cache.proofs.placing.object_of.Goals as goal

pub returns-then-length-bytes-clause-none : goal.returns-then-length-bytes-clause-none
returns-then-length-bytes-clause-none c = λ none. too_few c.args.bytes.now c.in-Ok.read.0 c.in-Ok.read.1 c.in-Ok.ensures.only c.if-length-bytes.true
