use Rattle.std.proofs.Common.{arith}
use Rattle.disk_trait.proofs.Torn.{torn_ended}
use Rattle.disk_trait.proofs.crash.tear.Goals as goal

pub returns : goal.returns
returns c =
    torn_ended c.args.pick c.args.from c.args.end c.min-first.result c.loop-place.place c.args.bytes.now c.loop-place.bytes (omega arith) (omega arith) c.loop-place.invariant
