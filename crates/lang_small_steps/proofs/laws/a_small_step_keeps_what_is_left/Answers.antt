use Rattle.lang_small_steps.proofs.Sound.{move_sound}
use Rattle.lang_small_steps.proofs.laws.a_small_step_keeps_what_is_left.Goals as goal

pub returns : goal.returns
returns c = λ w l. move_sound w l.doing l.stack
