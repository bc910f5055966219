use Rattle.lang_small_steps.proofs.Falling.{falls_by}
use Rattle.lang_small_steps.proofs.laws.a_small_step_leaves_fewer.Goals as goal

pub returns : goal.returns
returns c = falls_by
