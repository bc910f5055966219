use Rattle.cluster_core.specs.Failing.{IsSite}
use Rattle.cluster_core.specs.Seated.{AreOpen, AreSeated}
use Rattle.cluster_port.specs.Lent.{AreInPlace}
use Rattle.std.proofs.Common.{length, vec_capacity, vec_len, ◌++◌, ◌+◌, ◌≡◌, ◌≤◌}
use Rattle.std.specs.List.{AllZip}
use Rattle.std.specs.Vec.Iter.{into_iter_items, into_iter_len}
use Rattle.cluster_core.proofs.seat.take_all.Given as goal

-- one for each so far, at its place, and room for the rest, which are open
abbrev pub invariant-loop-seat : goal.invariant-loop-seat
invariant-loop-seat g l = (vec_len l.sites + into_iter_len l.seat-iterator ≡ into_iter_len l.initial.seat-iterator)
    × (vec_len l.sites + into_iter_len l.seat-iterator ≤ vec_capacity l.sites)
    × AreInPlace l.sites.items
    × AreSeated (length l.sites.items) (into_iter_items l.seat-iterator)
    × AreOpen (into_iter_items l.seat-iterator)
    × (l.yielded ++ into_iter_items l.seat-iterator ≡ l.fn.seats.items)
    × AllZip IsSite l.yielded l.sites.items
