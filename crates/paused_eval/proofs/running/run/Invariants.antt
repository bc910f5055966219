use Rattle.std.proofs.Common.{List, ◌≡◌}
use Rattle.thor_value.specs.declared.names.Oref.{Oref}
use Rattle.class_defs.specs.declared.statements.Stmt.{Stmt}
use Rattle.lang_small_steps.specs.Methods.{class_methods}
use Rattle.paused_eval.specs.Copies.{Keeps, Tied, at_hand, whole_state}
use Rattle.paused_eval.specs.Counted.{surplus}
use Rattle.paused_eval.specs.FromPages.{FromPages}
use Rattle.paused_eval.specs.Standing.{Runs, Stands}
use Rattle.paused_eval.proofs.running.run.Given as goal

-- what the try has written is tied to the cache, which keeps the copies; names and bodies stay what they are; as
-- many nodes were counted as steps were taken; and what is left comes to what the transaction comes to from the start
abbrev pub invariant-loop : goal.invariant-loop
invariant-loop g l =
    Tied l.cache × (Keeps l.fn.cache l.cache × (FromPages l.names × ((l.bodies.methods.now ≡ class_methods l.program.schema.now.classes)
    × ((surplus l.bodies.work l.machine.steps ≡ surplus l.fn.bodies.work l.fn.machine.steps)
    × ((tx : List Stmt) (given : List Oref) → Stands l.program.schema.now (at_hand l.program.schema.now l.fn.cache) tx given (record { doing = l.fn.begun; stack = l.fn.stack }) (whole_state l.fn.machine l.fn.cache l.fn.names)
    → Runs l.program.schema.now (at_hand l.program.schema.now l.fn.cache) tx given l.counter (record { doing = l.doing; stack = l.stack }) (whole_state l.machine l.cache l.names))))))
