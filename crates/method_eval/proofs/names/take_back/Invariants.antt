use Rattle.std.proofs.Common.{◌≡◌, length}
use Rattle.method_eval.proofs.Holding.{back_to}
use Rattle.method_eval.proofs.names.take_back.Given as goal

-- those so far are taken back, and the others are as they were
abbrev pub invariant-loop-place : goal.invariant-loop-place
invariant-loop-place l = (l.held.items ≡ back_to l.place l.fn.held.items) × (length l.held.items ≡ length l.fn.held.items)
