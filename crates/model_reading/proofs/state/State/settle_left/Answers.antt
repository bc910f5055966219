use Rattle.std.proofs.Common.{refl}
use Rattle.model_reading.proofs.state.State.settle_left.Goals as goal

pub returns : goal.returns
returns c = λ test. rw (← c.self.view_is) refl
