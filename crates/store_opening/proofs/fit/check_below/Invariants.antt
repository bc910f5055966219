use Rattle.std.proofs.Common.{take}
use Rattle.std.specs.List.{AllByRecursion}
use Rattle.store_opening.specs.Fitting.{IsBelow}
use Rattle.store_opening.specs.Joined.{read_states}
use Rattle.store_opening.specs.Standing.{members_of}
use Rattle.store_opening.proofs.fit.check_below.Given as goal

-- those so far pass
abbrev pub invariant-loop-one : goal.invariant-loop-one
invariant-loop-one l = AllByRecursion (IsBelow (read_states l.store)) (members_of (take l.one-index l.standing))
