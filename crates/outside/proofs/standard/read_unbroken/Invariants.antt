use Rattle.std.proofs.Common.{◌≤◌, length, IfOk}
use Rattle.outside.proofs.standard.read_unbroken.Given as goal

-- the last answer's count is within the bytes
abbrev pub invariant-loop : goal.invariant-loop
invariant-loop l = IfOk l.answer (λ count. count ≤ length l.into)
