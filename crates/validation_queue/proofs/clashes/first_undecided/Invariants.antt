use Rattle.std.proofs.Common.{◌≡◌, find, not}
use Rattle.validation_queue.proofs.clashes.first_undecided.Given as goal

-- the members that are left decide
abbrev pub invariant-loop-tx : goal.invariant-loop-tx
invariant-loop-tx l = find (λ e. not e.1.decided) l.tx-iterator ≡ find (λ e. not e.1.decided) l.members.entries
