use Rattle.std.proofs.Common.{◌≤◌, length, take}
use Rattle.serial_model.specs.Outcomes.{AreAnswered, client_items_from}
use Rattle.top_history_check.proofs.answers.are_answered.Given as goal

-- the outcomes so far answer the items of the clients so far
abbrev pub invariant-loop-place : goal.invariant-loop-place
invariant-loop-place l = (l.used ≤ length l.ends) × AreAnswered l.history (client_items_from 1 (take l.place l.clients)) (take l.used l.ends)
