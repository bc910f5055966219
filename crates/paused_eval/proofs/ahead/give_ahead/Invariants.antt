use Rattle.std.proofs.Common.{ℕ, List, ◌≡◌}
use Rattle.thor_value.specs.declared.names.Oref.{Oref}
use Rattle.class_defs.specs.declared.statements.Stmt.{Stmt}
use Rattle.method_eval.specs.Names.{Names}
use Rattle.lang_small_steps.specs.Methods.{class_methods}
use Rattle.lang_small_steps.specs.declared.frames.Doing.TheVariants as doing
use Rattle.paused_eval.specs.Copies.{Keeps, Tied, at_hand, whole_state}
use Rattle.paused_eval.specs.Counted.{surplus}
use Rattle.paused_eval.specs.Standing.{Runs}
use Rattle.paused_eval.proofs.ahead.give_ahead.Given as goal

-- what is given next, over the frames that are left, comes to what is given first
abbrev pub invariant-loop : goal.invariant-loop
invariant-loop g l =
    Tied l.cache × (Keeps l.fn.cache l.cache × ((l.bodies.methods.now ≡ class_methods l.program.schema.now.classes)
    × ((surplus l.bodies.work l.machine.steps ≡ surplus l.fn.bodies.work l.fn.machine.steps)
    × ((tx : List Stmt) (given : List Oref) (count : ℕ) (n : Names) → Runs l.program.schema.now (at_hand l.program.schema.now l.fn.cache) tx given count (record { doing = doing.Give l.fn.flow; stack = l.fn.stack }) (whole_state l.fn.machine l.fn.cache n)
    → Runs l.program.schema.now (at_hand l.program.schema.now l.fn.cache) tx given count (record { doing = doing.Give l.next; stack = l.stack }) (whole_state l.machine l.cache n)))))
