use Rattle.std.proofs.Common.{◌≡◌, length, reverse}
use Rattle.disk_trait.specs.Record.{synced_of}
use Rattle.disk_trait.proofs.crash.synced.Given as goal

abbrev pub invariant-loop-call : goal.invariant-loop-call
invariant-loop-call l = synced_of (reverse l.left) l.synced.items ≡ synced_of (reverse l.calls) l.bytes

abbrev pub decreases-loop-call : goal.decreases-loop-call
decreases-loop-call l = length l.left
