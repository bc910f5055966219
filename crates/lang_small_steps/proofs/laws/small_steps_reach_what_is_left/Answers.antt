use Rattle.lang_small_steps.proofs.Reaching.{begins, goes_on, ends, stops}
use Rattle.lang_small_steps.proofs.laws.small_steps_reach_what_is_left.Goals as goal

pub returns : goal.returns
returns c = record { begins = begins; goes_on = goes_on; ends = ends; stops = stops }
