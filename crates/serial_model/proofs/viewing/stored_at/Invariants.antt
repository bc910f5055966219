use Rattle.std.proofs.Common.{◌≡◌}
use Rattle.method_eval.specs.Answers.{stored_at}
use Rattle.serial_model.proofs.viewing.stored_at.Given as goal

-- the objects so far
abbrev pub invariant-loop-oref : goal.invariant-loop-oref
invariant-loop-oref l = l.stored ≡ stored_at l.epoch l.yielded
