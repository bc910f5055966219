use Rattle.std.proofs.Common.{◌≡◌, length, reverse}
use Rattle.disk_trait.specs.Record.{torn, ranges_of}
use Rattle.disk_trait.proofs.crash.tear_calls.Given as goal

abbrev pub invariant-loop-call : goal.invariant-loop-call
invariant-loop-call l = torn l.pick (ranges_of (reverse l.left)) l.bytes ≡ torn l.pick (ranges_of (reverse l.calls)) l.fn.bytes

abbrev pub decreases-loop-call : goal.decreases-loop-call
decreases-loop-call l = length l.left
