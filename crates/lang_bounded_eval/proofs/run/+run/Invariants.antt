-- Each call is of nodes less deep, or of a part of what the caller does at the same depth, down to where plain recursion ends.
-- So as many calls as the measure says stand inside one another at most: 16 times `RECURSION_LIMIT`, and some.
use Rattle.std.proofs.Common.{◌≡◌, ◌+◌, ◌-◌, ◌*◌, [], drop}
use Rattle.class_defs.specs.Expressions.{values_from}
use Rattle.lang_bounded_eval.specs.Inner.{value_of, block, in_order, repeat}
use Rattle.method_eval.specs.Viewed.{reading}
use Rattle.lang_bounded_eval.proofs.Depth.{depth_left}
use Rattle.lang_bounded_eval.proofs.run.+run.Given as goal

abbrev pub decreases-value_of : goal.decreases-value_of
decreases-value_of l = 16 * depth_left l.nested

abbrev pub decreases-expression : goal.decreases-expression
decreases-expression l = 16 * depth_left l.inner + 15

abbrev pub decreases-node : goal.decreases-node
decreases-node l = 16 * depth_left l.inner + 14

abbrev pub decreases-called : goal.decreases-called
decreases-called l = 16 * depth_left l.inner + 13

abbrev pub decreases-values_of : goal.decreases-values_of
decreases-values_of l = 16 * depth_left l.inner + 12

abbrev pub decreases-call_object : goal.decreases-call_object
decreases-call_object l = 16 * depth_left l.inner + 12

abbrev pub decreases-run_body : goal.decreases-run_body
decreases-run_body l = 16 * depth_left l.inner + 11

abbrev pub decreases-block : goal.decreases-block
decreases-block l = 16 * depth_left l.inner + 10

abbrev pub decreases-in_order : goal.decreases-in_order
decreases-in_order l = 16 * depth_left l.inner + 9

abbrev pub decreases-execute : goal.decreases-execute
decreases-execute l = 16 * depth_left l.nested

abbrev pub decreases-statement : goal.decreases-statement
decreases-statement l = 16 * depth_left l.inner + 15

abbrev pub decreases-repeat : goal.decreases-repeat
decreases-repeat l = 16 * depth_left l.inner + 14

-- the values so far and those of the expressions to come are those of all
abbrev pub invariant-values_of-loop-expr : goal.invariant-values_of-loop-expr
invariant-values_of-loop-expr l =
    let w = reading l.world in
    values_from w (value_of w l.inner) (block w l.inner) l.values (drop l.expr-index l.exprs) l.machine
    ≡ values_from w (value_of w l.inner) (block w l.inner) [] l.exprs l.fn.machine

-- the statements to come do, from here on, what all do from the start
abbrev pub invariant-in_order-loop-stmt : goal.invariant-in_order-loop-stmt
invariant-in_order-loop-stmt l =
    let w = reading l.world in
    in_order w l.inner (drop l.stmt-index l.stmts) l.machine ≡ in_order w l.inner l.stmts l.fn.machine

-- the turns left do, from here on, what all do from the start
abbrev pub invariant-repeat-loop : goal.invariant-repeat-loop
invariant-repeat-loop l =
    let w = reading l.world in
    repeat w l.inner (100001 - l.counter) l.condition l.body l.machine ≡ repeat w l.inner 100001 l.condition l.body l.fn.machine
