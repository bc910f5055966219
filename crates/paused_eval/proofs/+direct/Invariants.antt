use Rattle.std.proofs.Common.{◌≡◌, ◌-◌, ◌+◌, ◌*◌, drop}
use Rattle.lang_small_steps.specs.Methods.{class_methods}
use Rattle.paused_eval.specs.Copies.{Keeps, Tied, state}
use Rattle.paused_eval.specs.Counted.{surplus}
use Rattle.paused_eval.specs.Direct as spec
use Rattle.paused_eval.specs.Direct.{directly, on}
use Rattle.paused_eval.proofs.+direct.Given as goal

-- the arguments that are left, behind those that are done, come to what all of them come to
abbrev pub invariant-direct::collect-loop-place : goal.invariant-direct::collect-loop-place
invariant-direct::collect-loop-place g l =
    let w = on l.program.schema.now l.fn.cache in
    Tied l.cache × (Keeps l.fn.cache l.cache × ((l.bodies.methods.now ≡ class_methods l.program.schema.now.classes)
    × ((surplus l.bodies.work l.machine.steps ≡ surplus l.fn.bodies.work l.fn.machine.steps)
    × (spec.collect w l.inner (directly w l.room l.inner) l.kind l.target l.method l.fn.none l.arguments (state l.fn.machine l.fn.cache) ≡ spec.collect w l.inner (directly w l.room l.inner) l.kind l.target l.method l.done (drop l.place l.arguments) (state l.machine l.cache)))))

-- what is left comes to what all of them come to
abbrev pub invariant-direct_statements::in_order-loop-place : goal.invariant-direct_statements::in_order-loop-place
invariant-direct_statements::in_order-loop-place g l =
    let w = on l.program.schema.now l.fn.cache in
    Tied l.cache × (Keeps l.fn.cache l.cache × ((l.bodies.methods.now ≡ class_methods l.program.schema.now.classes)
    × ((surplus l.bodies.work l.machine.steps ≡ surplus l.fn.bodies.work l.fn.machine.steps)
    × (spec.in_order w l.inner (directly w l.room l.inner) l.stmts (state l.fn.machine l.fn.cache) ≡ spec.in_order w l.inner (directly w l.room l.inner) (drop l.place l.stmts) (state l.machine l.cache)))))

-- the turns that are left come to what all of them come to
abbrev pub invariant-direct_statements::turns-loop-count : goal.invariant-direct_statements::turns-loop-count
invariant-direct_statements::turns-loop-count g l =
    let w = on l.program.schema.now l.fn.cache in
    Tied l.cache × (Keeps l.fn.cache l.cache × ((l.bodies.methods.now ≡ class_methods l.program.schema.now.classes)
    × ((surplus l.bodies.work l.machine.steps ≡ surplus l.fn.bodies.work l.fn.machine.steps)
    × (spec.turn w l.inner (directly w l.room l.inner) 100000 l.condition l.body l.fn.tested (state l.fn.machine l.fn.cache) ≡ spec.turn w l.inner (directly w l.room l.inner) (100000 - l.count) l.condition l.body l.value (state l.machine l.cache)))))

-- Each part has room for one node less, and what is called with the same room comes in this order. So as many calls as the
-- measure says stand inside one another at most: 32 times the room with which `ahead` begins, and some.

abbrev pub decreases-direct::value_of : goal.decreases-direct::value_of
decreases-direct::value_of g l = 32 * l.room

abbrev pub decreases-direct::node : goal.decreases-direct::node
decreases-direct::node g l = 32 * l.room + 31

abbrev pub decreases-direct::negate : goal.decreases-direct::negate
decreases-direct::negate g l = 32 * l.room + 1

abbrev pub decreases-direct::combine : goal.decreases-direct::combine
decreases-direct::combine g l = 32 * l.room + 1

abbrev pub decreases-direct::binary : goal.decreases-direct::binary
decreases-direct::binary g l = 32 * l.room + 2

abbrev pub decreases-direct::called : goal.decreases-direct::called
decreases-direct::called g l = 32 * l.room + 30

abbrev pub decreases-direct::collect : goal.decreases-direct::collect
decreases-direct::collect g l = 32 * l.room + 29

abbrev pub decreases-direct::ready : goal.decreases-direct::ready
decreases-direct::ready g l = 32 * l.room + 28

abbrev pub decreases-direct::call : goal.decreases-direct::call
decreases-direct::call g l = 32 * l.room + 27

abbrev pub decreases-direct::enter : goal.decreases-direct::enter
decreases-direct::enter g l = 32 * l.room + 26

abbrev pub decreases-direct::run_body : goal.decreases-direct::run_body
decreases-direct::run_body g l = 32 * l.room + 25

abbrev pub decreases-direct_statements::effect : goal.decreases-direct_statements::effect
decreases-direct_statements::effect g l = 32 * l.room + 24

abbrev pub decreases-direct_statements::turns : goal.decreases-direct_statements::turns
decreases-direct_statements::turns g l = 32 * l.room + 22

abbrev pub decreases-direct_statements::turn_body : goal.decreases-direct_statements::turn_body
decreases-direct_statements::turn_body g l = 32 * l.room + 21

abbrev pub decreases-direct_statements::block : goal.decreases-direct_statements::block
decreases-direct_statements::block g l = 32 * l.room + 20

abbrev pub decreases-direct_statements::in_order : goal.decreases-direct_statements::in_order
decreases-direct_statements::in_order g l = 32 * l.room + 19

abbrev pub decreases-direct_statements::execute : goal.decreases-direct_statements::execute
decreases-direct_statements::execute g l = 32 * l.room + 18

abbrev pub decreases-direct_statements::statement : goal.decreases-direct_statements::statement
decreases-direct_statements::statement g l = 32 * l.room + 29

abbrev pub decreases-direct_statements::test_again : goal.decreases-direct_statements::test_again
decreases-direct_statements::test_again g l = 32 * l.room + 1
