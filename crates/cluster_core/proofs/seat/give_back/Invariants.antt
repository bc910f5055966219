use Rattle.cluster_core.specs.Failing.{GivesPart}
use Rattle.std.proofs.Common.{vec_capacity, vec_len, ◌++◌, ◌+◌, ◌≡◌, ◌≤◌}
use Rattle.std.specs.List.{AllZip}
use Rattle.std.specs.Vec.Iter.{into_iter_items, into_iter_len}
use Rattle.cluster_core.proofs.seat.give_back.Given as goal

-- one for each so far, and room for the rest
abbrev pub invariant-loop-seat : goal.invariant-loop-seat
invariant-loop-seat g l = (vec_len l.parts + into_iter_len l.seat-iterator ≡ into_iter_len l.initial.seat-iterator)
    × (vec_len l.parts + into_iter_len l.seat-iterator ≤ vec_capacity l.parts)
    × (l.yielded ++ into_iter_items l.seat-iterator ≡ l.fn.seats.items)
    × AllZip GivesPart l.yielded l.parts.items
