use Rattle.mob_buffer.proofs.Writes.{size_next, stands_at}
use Rattle.mob_buffer.proofs.tally.size_behind.Goals as goal

pub size_after-size-requires : goal.size_after-size-requires
size_after-size-requires c = (stands_at c.args.writes.now c.loop-place.place c.index-writes-place.result c.requires.writes c.loop-place-test.true c.index-writes-place.is).1

pub loop-place-preserved : goal.loop-place-preserved
loop-place-preserved c = size_next c.args.objects.now.entries c.args.writes.now c.loop-place.place c.index-writes-place.result c.args.oref c.loop-place.size c.size_after-size.result c.loop-place-test.true c.index-writes-place.is c.loop-place.invariant c.size_after-size.ensures
