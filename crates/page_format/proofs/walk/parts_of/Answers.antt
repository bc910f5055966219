use Rattle.std.proofs.Common.{sym}
use Rattle.page_format.proofs.Walks.{behind_shorter}
use Rattle.page_format.proofs.walk.parts_of.Goals as goal

pub overflow_sub-body : goal.overflow_sub-body
overflow_sub-body c = behind_shorter c.in_ok-about.about.1 0 c.in_ok-about.body.now c.in_ok-rest.rest.now (sym c.in_ok-rest.ensures)
