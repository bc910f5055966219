use Rattle.std.proofs.Common.{◌≡◌, find}
use Rattle.validation_queue.proofs.clashes.first_decided.Given as goal

-- the members that are left decide
abbrev pub invariant-loop-tx : goal.invariant-loop-tx
invariant-loop-tx l = find (λ e. e.1.decided) l.tx-iterator ≡ find (λ e. e.1.decided) l.members.entries
