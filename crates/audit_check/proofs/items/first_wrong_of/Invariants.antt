use Rattle.std.proofs.Common.{◌+◌, take}
use Rattle.serial_model.specs.Outcomes.{items_from}
use Rattle.audit_check.specs.Items.{AreRight, items_at}
use Rattle.audit_check.proofs.items.first_wrong_of.Given as goal

-- the lines so far are right
abbrev pub invariant-loop-place : goal.invariant-loop-place
invariant-loop-place l = AreRight l.history (items_from (l.client + 1) 1 (take l.place (items_at l.clients l.client))) (take l.place l.ended)
