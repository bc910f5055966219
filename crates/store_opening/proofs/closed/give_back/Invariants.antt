use Rattle.store_opening.specs.Seated.{Gives, HasPart}
use Rattle.std.proofs.Common.{vec_capacity, vec_len, ◌++◌, ◌+◌, ◌≡◌, ◌≤◌}
use Rattle.std.specs.List.{AllZip}
use Rattle.std.specs.Vec.Iter.{into_iter_items, into_iter_len}
use Rattle.store_opening.proofs.closed.give_back.Given as goal

-- one for each so far, in their order, and room for the rest
abbrev pub invariant-loop-place : goal.invariant-loop-place
invariant-loop-place g l = (vec_len l.parts + into_iter_len l.place-iterator ≡ into_iter_len l.initial.place-iterator)
    × (vec_len l.parts + into_iter_len l.place-iterator ≤ vec_capacity l.parts)
    × (l.yielded ++ into_iter_items l.place-iterator ≡ l.fn.places.items)
    × AllZip (Gives g.P.Parts.disks) l.yielded l.parts.items
    × AllZip HasPart l.yielded l.parts.items
