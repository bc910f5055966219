use Rattle.std.proofs.Common.{◌≡◌, find}
use Rattle.validation_queue.specs.Contents.{is_blocking}
use Rattle.validation_queue.proofs.clashes.first_blocking.Given as goal

-- the members that are left decide
abbrev pub invariant-loop-tx : goal.invariant-loop-tx
invariant-loop-tx l = find (λ e. is_blocking l.upgrade e.1) l.tx-iterator ≡ find (λ e. is_blocking l.upgrade e.1) l.members.entries
