use Rattle.client_state.proofs.Sharing.{wrote}
use Rattle.client_state.proofs.transaction.push_write.Goals as goal
use Rattle.client_state.specs.Writing.{shares_write}
use Rattle.client_state.specs.declared.transaction.Share.{Share}
use Rattle.std.proofs.Common.{List, Option, Some, ap, cond, ◌∙◌}
use Rattle.std.proofs.lemmas.Result.{on_ok_weaker}
use Rattle.std.specs.Ordering.{eq_by_cmp}
use Rattle.thor_value.specs.Names.{oref_cmp}
use Rattle.thor_value.specs.declared.values.Obj.{Obj}

pub returns : goal.returns
returns c = on_ok_weaker c.write_at.result (λ e x. ap (λ (ss : List Share). shares_write ss x) e ∙ (wrote c.place_of.new.shares.items c.in_ok-place.place c.args.oref c.args.obj x c.in_ok-place.ensures.first ∙ ap (λ (v : Option Obj). cond (eq_by_cmp oref_cmp x c.args.oref) (Some c.args.obj) v) (c.in_ok-place.ensures.writes x))) c.write_at.ensures
