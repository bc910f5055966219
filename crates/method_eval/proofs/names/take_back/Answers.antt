use Rattle.std.proofs.Common.{◌∙◌}
use Rattle.method_eval.proofs.Holding.{back_as_many, back_more}
use Rattle.method_eval.proofs.names.take_back.Goals as goal

pub loop-place-preserved : goal.loop-place-preserved
loop-place-preserved c = (
  back_more c.loop-place.place c.args.held.now.items c.loop-place.held.items c.free_at.new.held.items c.loop-place.invariant.0 c.free_at.ensures,
  back_as_many c.loop-place.place c.loop-place.held.items c.free_at.new.held.items c.free_at.ensures ∙ c.loop-place.invariant.1,
)
