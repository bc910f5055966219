use Rattle.cluster_core.specs.Failing.{NoneFellOn, faults_at}
use Rattle.cluster_core.specs.Seated.{AreSeated}
use Rattle.std.proofs.Common.{vec_capacity, vec_len, ◌++◌, ◌+◌, ◌≡◌, ◌≤◌}
use Rattle.std.specs.Vec.Iter.{into_iter_items, into_iter_len}
use Rattle.cluster_core.proofs.opening.seat_closed.Given as goal

-- one for each so far, and room for the rest
abbrev pub invariant-loop-closed : goal.invariant-loop-closed
invariant-loop-closed g l = (vec_len l.seats + into_iter_len l.closed-iterator ≡ into_iter_len l.initial.closed-iterator)
    × (vec_len l.seats + into_iter_len l.closed-iterator ≤ vec_capacity l.seats)
    × AreSeated 0 l.seats.items
    × (l.yielded ++ into_iter_items l.closed-iterator ≡ l.fn.places.items)
    × NoneFellOn g.P.Parts.disks (faults_at g.P.Parts.disks) l.yielded l.seats.items
