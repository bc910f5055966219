use Rattle.paused_eval.proofs.Later.{over_others, with_page}
use Rattle.paused_eval.proofs.laws.what_stands_goes_on_later.Goals as goal

pub returns : goal.returns
returns c = record { objects = over_others; names = with_page }
