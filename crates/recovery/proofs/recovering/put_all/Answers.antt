use Rattle.log_codec.specs.Grammar.{BodyFits}
use Rattle.std.proofs.Common.{Bool, Some, ap, ◌||◌, ◌∙◌}
use Rattle.repo_state.specs.Said.{said}
use Rattle.recovery.proofs.Read.{all_at}
use Rattle.recovery.proofs.Reopened.{reopens_next}
use Rattle.recovery.proofs.Replayed.{put_next as next_put}
use Rattle.recovery.proofs.recovering.put_all.Goals as goal

pub put_next-requires-clause-fits : goal.put_next-requires-clause-fits
put_next-requires-clause-fits c = all_at BodyFits c.args.bodies.now c.loop-body.body-index c.body-item.result c.requires.fit c.loop-body-test.true c.body-item.is

pub loop-body-preserved : goal.loop-body-preserved
loop-body-preserved c = (
  c.in_ok-reopens.ensures.keeps,
  c.in_ok-reopens.ensures.unread,
  c.in_ok-reopens.ensures.limit ∙ c.loop-body.invariant.2,
  next_put (Some (said c.args.held.now)) (said c.loop-body.held) (said c.put_next.new.held) c.args.bodies.now c.loop-body.body-index c.body-item.result c.loop-body-test.true c.body-item.is c.loop-body.invariant.3 c.in_ok-reopens.ensures.said,
  reopens_next (Some (said c.args.held.now)) (said c.loop-body.held) c.args.bodies.now c.loop-body.body-index c.body-item.result c.args.reopens.now c.loop-body.reopens _ c.loop-body-test.true c.body-item.is c.loop-body.invariant.3 c.loop-body.invariant.4 (ap (λ (x : Bool). c.loop-body.reopens || x) c.in_ok-reopens.ensures.reopens),
)
