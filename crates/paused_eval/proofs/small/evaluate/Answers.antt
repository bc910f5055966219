use Rattle.std.proofs.Common.{◌≡◌, ◌∙◌, ◌<◌, ◌-◌, ℕ, zero, suc, Some, ap, refl, sym, arith}
use Rattle.std.specs.Option.{option_copied}
use Rattle.class_defs.specs.declared.expressions.Expr.{out-Expr}
use Rattle.lang_small_steps.specs.Reaches.{over}
use Rattle.lang_small_steps.proofs.Nested.{evaluate-deeper}
use Rattle.paused_eval.specs.Copies.{at_hand}
use Rattle.paused_eval.specs.Does.{field_read}
use Rattle.paused_eval.proofs.Nodes.{begins_field}
use Rattle.paused_eval.proofs.small.evaluate.Goals as goal

above : (n : ℕ) → (n ≡ 0 → ⊥) → 0 < n
above zero h = absurd (h refl)
above (suc n) h = omega arith

pub returns-in-Some-clause-does : goal.returns-in-Some-clause-does
returns-in-Some-clause-does g c =
    let s = c.args.program.now.schema.now in
    let w = over s (at_hand s c.args.cache.now) in
    let deep : 0 < c.args.nested = above c.args.nested c.if-nested-eq0.false in
    let read : field_read (out-Expr c.args.expr.now) ≡ Some c.in-Some.name.now = sym c.field_read.ensures ∙ ap option_copied c.in-Some.is in
    rw (evaluate-deeper w c.args.nested c.args.expr.now c.args.stack.now deep)
    (rw (begins_field w (c.args.nested - 1) (out-Expr c.args.expr.now) c.args.stack.now c.in-Some.name.now read) (c.field.ensures.does c.args.stack.now))
