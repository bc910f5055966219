use Rattle.store_opening.proofs.Bringing.{put_next}
use Rattle.store_opening.proofs.eager.put_all.Goals as goal

pub loop-oref-preserved : goal.loop-oref-preserved
loop-oref-preserved c =
    let inv = c.loop-oref.invariant in (
      λ sorted. c.in_ok-put_brought.ensures.sorted (inv.0 sorted),
      put_next c.args.schemas.now c.args.stored.now.objects c.args.stored.now.epoch c.args.objects.now c.loop-oref.objects c.put_brought.new.objects c.args.names.now c.loop-oref.oref-index _ c.loop-oref-test.true inv.1 c.in_ok-put_brought.ensures.put,
    )
