use Rattle.lang_small_steps.proofs.Reaching.{over_others, with_more}
use Rattle.lang_small_steps.proofs.laws.what_is_left_goes_on_later.Goals as goal

pub returns : goal.returns
returns c = record { objects = over_others; names = with_more }
