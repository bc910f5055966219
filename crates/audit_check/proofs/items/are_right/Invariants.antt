use Rattle.std.proofs.Common.{◌≤◌, length, take}
use Rattle.serial_model.specs.Outcomes.{client_items_from}
use Rattle.audit_check.specs.Items.{AreRight}
use Rattle.audit_check.proofs.items.are_right.Given as goal

-- the lines so far are those of the clients so far, each right
abbrev pub invariant-loop-client : goal.invariant-loop-client
invariant-loop-client l = (l.used ≤ length l.ended) × AreRight l.history (client_items_from 1 (take l.client l.clients)) (take l.used l.ended)
