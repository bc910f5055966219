use Rattle.std.proofs.Common.{take}
use Rattle.std.specs.List.{AllByRecursion}
use Rattle.store_opening.specs.Fitting.{IsRead}
use Rattle.store_opening.specs.Joined.{read_states, state_of}
use Rattle.store_opening.specs.Standing.{members_of}
use Rattle.store_opening.proofs.alike.check_read.Given as goal

-- those so far pass
abbrev pub invariant-loop-other : goal.invariant-loop-other
invariant-loop-other l = AllByRecursion (IsRead (read_states l.store) (state_of l.first.read.now)) (members_of (take l.other-index l.others))
