use Rattle.std.proofs.Common.{◌≡◌, ◌+◌, ◌<◌, length, sum_by}
use Rattle.log_frame.specs.Log.{bodies_from}
use Rattle.log_frame.proofs.Frames.{prepend}
use Rattle.log_frame.proofs.reading.read_bodies.Given as goal

-- the bodies so far and those in what is left are all; a gate is left
abbrev pub invariant-loop-gate : goal.invariant-loop-gate
invariant-loop-gate l = record {
  all : bodies_from 0 l.place l.bytes ≡ prepend l.bodies (bodies_from 0 l.end l.left);
  end : l.end ≡ l.place + sum_by (λ body. 5 + length body) l.bodies;
  size : l.end + length l.left ≡ l.place + length l.bytes;
  some : 0 < length l.left;
}

abbrev pub decreases-loop-gate : goal.decreases-loop-gate
decreases-loop-gate l = length l.left
