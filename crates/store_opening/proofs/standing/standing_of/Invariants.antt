use Rattle.std.proofs.Common.{length, take, ◌≡◌}
use Rattle.std.specs.List.{AllByRecursion}
use Rattle.store_opening.specs.Fitting.{members_from}
use Rattle.store_opening.specs.Joined.{read_states}
use Rattle.store_opening.specs.Standing.{IsStanding, members_of}
use Rattle.store_opening.proofs.standing.standing_of.Given as goal

-- those so far are numbered
abbrev pub invariant-loop-read : goal.invariant-loop-read
invariant-loop-read l =
    (members_of l.standing.items ≡ members_from 0 (read_states (take l.read-index l.store)))
    × (length l.standing.items ≡ l.read-index)
    × AllByRecursion (IsStanding l.store) l.standing.items
