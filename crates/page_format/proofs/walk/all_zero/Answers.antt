use Rattle.page_format.proofs.Zeros.{zeros_on}
use Rattle.page_format.proofs.walk.all_zero.Goals as goal

pub loop-byte-preserved : goal.loop-byte-preserved
loop-byte-preserved c = zeros_on c.loop-byte.bits c.loop-byte.byte-index c.args.bytes.now c.loop-byte-test.true c.loop-byte.invariant
