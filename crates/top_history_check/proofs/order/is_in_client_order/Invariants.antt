use Rattle.std.proofs.Common.{take}
use Rattle.top_history_check.specs.Order.{EndsWith}
use Rattle.top_history_check.proofs.order.is_in_client_order.Given as goal

-- the entries so far are in client order, and these are the last of each client
abbrev pub invariant-loop-place : goal.invariant-loop-place
invariant-loop-place l = EndsWith l.last (take l.place l.history)
