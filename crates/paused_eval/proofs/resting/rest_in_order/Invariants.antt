use Rattle.std.proofs.Common.{◌≡◌}
use Rattle.lang_small_steps.specs.Methods.{class_methods}
use Rattle.lang_small_steps.specs.declared.limits.TheConstants.{RECURSION_LIMIT}
use Rattle.paused_eval.specs.Copies.{Keeps, Tied, state}
use Rattle.paused_eval.specs.Counted.{surplus}
use Rattle.paused_eval.specs.Direct as spec
use Rattle.paused_eval.specs.Direct.{directly, on}
use Rattle.paused_eval.proofs.resting.rest_in_order.Given as goal

-- the statements that are left come to what all of them come to
abbrev pub invariant-loop : goal.invariant-loop
invariant-loop g l =
    let w = on l.program.schema.now l.fn.cache in
    Tied l.cache × (Keeps l.fn.cache l.cache × ((l.bodies.methods.now ≡ class_methods l.program.schema.now.classes)
    × ((surplus l.bodies.work l.machine.steps ≡ surplus l.fn.bodies.work l.fn.machine.steps)
    × (spec.in_order w l.inner (directly w RECURSION_LIMIT l.inner) l.fn.rest (state l.fn.machine l.fn.cache) ≡ spec.in_order w l.inner (directly w RECURSION_LIMIT l.inner) l.left (state l.machine l.cache)))))
