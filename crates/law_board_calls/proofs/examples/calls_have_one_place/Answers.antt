use Rattle.std.proofs.Common.{sym, ◌∙◌}
use Rattle.law_board_calls.proofs.examples.calls_have_one_place.Goals as goal

pub returns : goal.returns
returns g = λ c repo other place behind i j first second. (sym first.there ∙ second.there, sym first.behind ∙ second.behind)
