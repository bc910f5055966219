use Rattle.recovery.proofs.Read.{body_that_is_spelled}
use Rattle.repo_opening.proofs.unheld.with_record.Goals as goal

pub put_body-requires : goal.put_body-requires
put_body-requires c = body_that_is_spelled c.as_slice.result.now c.in-Ok.body c.in-Ok.ensures.found
