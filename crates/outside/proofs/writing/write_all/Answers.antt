use Rattle.std.proofs.Common.{arith}
use Rattle.outside.proofs.Pieces.{put_further}
use Rattle.outside.proofs.writing.write_all.Goals as goal

pub loop-done-preserved : goal.loop-done-preserved
loop-done-preserved g c = record {
  within = omega (arith, c.in_ok-done.ensures.within);
  put = put_further _ _ _ c.loop-done.done c.in_ok-done.field-0 c.args.bytes.now c.loop-done.invariant.put (rw (← c.split_at.ensures.back) c.in_ok-done.ensures.put);
  never_falls = omega arith;
}
