use Rattle.client_state.proofs.Sharing.{reads_more}
use Rattle.client_state.proofs.transaction.push_read.Goals as goal
use Rattle.client_state.specs.Writing.{shares_write}
use Rattle.client_state.specs.declared.transaction.Share.{Share}
use Rattle.std.proofs.Common.{List, ap, ◌∙◌}
use Rattle.std.proofs.lemmas.Result.{on_ok_weaker}

pub returns : goal.returns
returns c = on_ok_weaker c.read_at.result (λ e x. ap (λ (ss : List Share). shares_write ss x) e ∙ (reads_more c.in_ok-place.place c.place_of.new.shares.items c.args.oref x ∙ c.in_ok-place.ensures.writes x)) c.read_at.ensures
