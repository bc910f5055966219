use Rattle.client_state.proofs.transaction.others_of.Given as goal
use Rattle.client_state.specs.Participants.{others_in}
use Rattle.std.proofs.Common.{drop, ◌++◌, ◌≡◌}
use Rattle.std.specs.Prelude.{length, ◌≤◌}

-- those that are left come behind
abbrev pub invariant-loop-other : goal.invariant-loop-other
invariant-loop-other l = (length l.others ≤ l.other-index) × (l.others ++ others_in (drop l.other-index l.other-items) l.repo ≡ others_in l.participants l.repo)
