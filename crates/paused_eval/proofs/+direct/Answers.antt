use Rattle.std.proofs.Common.{◌≡◌, ◌+◌, ◌-◌, List, ◌∷◌, drop, ap, refl, sym, ◌∙◌}
use Rattle.class_defs.specs.declared.expressions.Expr.{Expr, out-Expr}
use Rattle.class_defs.specs.declared.statements.Stmt.{out-Stmt}
use Rattle.paused_eval.proofs.Nodes.{out_variable}
use Rattle.paused_eval.proofs.Unwinding.{called_does, called_left, collect_left, kind_there, node_variable, one_less, statement_does, turn_left, turned, value_there}
use Rattle.paused_eval.specs.Copies.{state}
use Rattle.paused_eval.specs.Direct as spec
use Rattle.paused_eval.specs.Direct.{directly, on}
use Rattle.paused_eval.proofs.+direct.Goals as goal

pub direct::called-returns-in-Ok-clause-does : goal.direct::called-returns-in-Ok-clause-does
direct::called-returns-in-Ok-clause-does g t c =
    let s = c.args.program.now.schema.now in
    called_does s c.args.cache.now c.value_of.new.cache c.args.room c.args.inner c.args.receiver.now c.args.method.now c.args.arguments.now c.args.arguments.now
    c.type_of-kind.result c.in-Ok.target c.new-none.result
    (state c.args.machine.now c.args.cache.now) (state c.value_of.new.machine c.value_of.new.cache) (state c.collect.new.machine c.collect.new.cache) c.collect.result
    c.in-Ok.ensures.kept
    (kind_there s c.args.machine.now c.args.cache.now c.type_of-kind.result c.args.receiver.now c.type_of-kind.ensures)
    c.new-none.ensures refl c.in-Ok.ensures.does c.collect.ensures.does

pub direct::called-returns-in-Err-clause-does : goal.direct::called-returns-in-Err-clause-does
direct::called-returns-in-Err-clause-does g t c =
    let s = c.args.program.now.schema.now in
    called_left (on s c.args.cache.now) c.args.room c.args.inner c.args.receiver.now c.args.method.now c.args.method.now c.args.arguments.now c.args.arguments.now
    c.type_of-kind.result c.in-Err.unwound c.behind_receiver.result (state c.args.machine.now c.args.cache.now) (state c.value_of.new.machine c.value_of.new.cache)
    (kind_there s c.args.machine.now c.args.cache.now c.type_of-kind.result c.args.receiver.now c.type_of-kind.ensures)
    refl refl c.in-Err.ensures.does c.behind_receiver.ensures

pub direct::collect-returns-in-Err-clause-does : goal.direct::collect-returns-in-Err-clause-does
direct::collect-returns-in-Err-clause-does g t c =
    let s = c.args.program.now.schema.now in
    let w = on s c.args.cache.now in
    let left = (drop c.loop-place.place c.args.arguments.now) in
    let first : left ≡ c.in-Some.expr.now ∷ (drop (c.loop-place.place + 1) c.args.arguments.now) = rw c.in-Some.is at c.at.ensures in
    collect_left s c.args.cache.now c.loop-place.cache c.args.room c.args.inner c.args.kind c.args.target c.args.method.now c.args.method.now c.loop-place.done left c.in-Some.expr.now c.in_ok-rest-in-Err.rest
    c.in-Err.unwound c.behind_argument.result (state c.loop-place.machine c.loop-place.cache) (state c.value_of.new.machine c.value_of.new.cache)
    (spec.collect w c.args.inner (directly w c.args.room c.args.inner) c.args.kind c.args.target c.args.method.now c.args.none c.args.arguments.now (state c.args.machine.now c.args.cache.now))
    c.loop-place.invariant.1.0 c.loop-place.invariant.1.1.1.1 (first ∙ ap (λ (es : List Expr). c.in-Some.expr.now ∷ es) (sym c.in_ok-rest-in-Err.ensures)) refl c.in-Err.ensures.does c.behind_argument.ensures

pub direct::node-returns-in-Variable-clause-does : goal.direct::node-returns-in-Variable-clause-does
direct::node-returns-in-Variable-clause-does g t c =
    let s = c.args.program.now.schema.now in
    node_variable (on s c.args.cache.now) c.args.inner _ _ _ _ _ (ap out-Expr c.in-Variable.is ∙ out_variable _)
    (value_there s c.args.machine.now c.args.cache.now c.named_value.result _ _ c.named_value.ensures refl)

pub direct_statements::statement-returns-in-Ok-clause-does : goal.direct_statements::statement-returns-in-Ok-clause-does
direct_statements::statement-returns-in-Ok-clause-does g t c =
    statement_does c.args.program.now.schema.now c.args.cache.now c.value_of.new.cache c.args.room c.args.inner (out-Stmt c.args.node.now) c.first_part.result.now c.in-Ok.value
    (state c.args.machine.now c.args.cache.now) (state c.value_of.new.machine c.value_of.new.cache) (state c.effect.new.machine c.effect.new.cache) c.effect.result
    c.in-Ok.ensures.kept c.first_part.ensures c.in-Ok.ensures.does c.effect.ensures.does

pub direct_statements::turns-returns-in-Err-clause-does : goal.direct_statements::turns-returns-in-Err-clause-does
direct_statements::turns-returns-in-Err-clause-does g t c =
    let s = c.args.program.now.schema.now in
    let w = on s c.args.cache.now in
    turn_left s c.args.cache.now c.loop-count.cache c.turn_body.new.cache c.args.room c.args.inner (100000 - c.loop-count.count) c.args.condition.now c.args.body.now
    c.loop-count.value (state c.loop-count.machine c.loop-count.cache) (state c.turn_body.new.machine c.turn_body.new.cache) (state c.test_again.new.machine c.test_again.new.cache)
    (spec.turn w c.args.inner (directly w c.args.room c.args.inner) 100000 c.args.condition.now c.args.body.now c.args.tested (state c.args.machine.now c.args.cache.now))
    c.in_ok-turn_body.field-0 c.loop-count.invariant.1.0 c.in_ok-turn_body.ensures.kept (sym c.holds.ensures ∙ c.if-not-holds.false) c.loop-count.invariant.1.1.1.1 c.in_ok-turn_body.ensures.does c.in-Next.is
    c.in-Err.unwound c.in-Err.ensures.does

pub direct_statements::turns-loop-count-preserved : goal.direct_statements::turns-loop-count-preserved
direct_statements::turns-loop-count-preserved g t c =
    let s = c.args.program.now.schema.now in
    let w = on s c.args.cache.now in (
      c.in-Ok.ensures.tied,
      (
        (λ x. c.in-Ok.ensures.kept x ∙ c.in_ok-turn_body.ensures.kept x ∙ c.loop-count.invariant.1.0 x),
        (
          c.test_again.ensures.known,
          (
            c.in-Ok.ensures.work ∙ c.in_ok-turn_body.ensures.work ∙ c.loop-count.invariant.1.1.1.0,
            turned s c.args.cache.now c.loop-count.cache c.turn_body.new.cache c.args.room c.args.inner (100000 - c.loop-count.count) c.args.condition.now c.args.body.now
                c.loop-count.value (state c.loop-count.machine c.loop-count.cache) (state c.turn_body.new.machine c.turn_body.new.cache) (state c.test_again.new.machine c.test_again.new.cache)
                (spec.turn w c.args.inner (directly w c.args.room c.args.inner) 100000 c.args.condition.now c.args.body.now c.args.tested (state c.args.machine.now c.args.cache.now))
                c.in_ok-turn_body.field-0 c.loop-count.invariant.1.0 c.in_ok-turn_body.ensures.kept (sym c.holds.ensures ∙ c.if-not-holds.false) c.loop-count.invariant.1.1.1.1 c.in_ok-turn_body.ensures.does c.in-Next.is
                c.in-Ok.next c.in-Ok.ensures.does
                ∙ ap (λ k. spec.turn w c.args.inner (directly w c.args.room c.args.inner) k c.args.condition.now c.args.body.now c.in-Ok.next (state c.test_again.new.machine c.test_again.new.cache)) (one_less 100000 c.loop-count.count),
          ),
        ),
      ),
    )
