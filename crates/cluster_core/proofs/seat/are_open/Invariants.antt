use Rattle.cluster_core.specs.Seated.{AreOpen}
use Rattle.std.proofs.Common.{drop}
use Rattle.cluster_core.proofs.seat.are_open.Given as goal

-- the rest decides
abbrev pub invariant-loop-seat : goal.invariant-loop-seat
invariant-loop-seat g l = AreOpen (drop l.seat-index l.seats) → AreOpen l.seats
