use Rattle.std.proofs.Common.{◌≡◌, length, reverse}
use Rattle.disk_trait.specs.Record.{ranges_of}
use Rattle.disk_trait.proofs.crash.has_unsynced.Given as goal

abbrev pub invariant-loop-call : goal.invariant-loop-call
invariant-loop-call l = ranges_of (reverse l.left) ≡ ranges_of (reverse l.calls)

abbrev pub decreases-loop-call : goal.decreases-loop-call
decreases-loop-call l = length l.left
