use Rattle.std.proofs.Common.{refl}
use Rattle.model_reading.proofs.state.State.stand.Goals as goal

pub returns : goal.returns
returns c = rw (← c.self.view_is, c.in_ok-insert.ensures.entries) refl
