use Rattle.recovery.proofs.Read.{state_that_is_spelled}
use Rattle.recovery.proofs.bodies.read_head.Goals as goal

pub returns-in-Ok-clause-fits : goal.returns-in-Ok-clause-fits
returns-in-Ok-clause-fits c = state_that_is_spelled c.as_slice.result.now c.in-Ok.state c.in-Ok.ensures.found
