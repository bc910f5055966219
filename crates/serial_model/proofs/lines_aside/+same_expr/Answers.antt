use Rattle.std.proofs.Common.{◌≡◌, ap, false, map, sym, true, ◌∙◌}
use Rattle.class_defs.specs.LinesAside.{expr_on_line_1}
use Rattle.serial_model.proofs.Aside.{same_at}
use Rattle.serial_model.proofs.AsideForms.{expr_binary, expr_call, expr_negate, expr_parens, of_these, refused, third}
use Rattle.serial_model.proofs.lines_aside.+same_expr.Goals as goal

pub same_expr-returns-in-Parens-other : goal.same_expr-returns-in-Parens-other
same_expr-returns-in-Parens-other t c =
    let told = of_these expr_on_line_1 c.in-Parens.inner c.in-Parens-other.other c.get.result.now c.get-in-Parens-other.result.now c.same_expr.result
    (sym c.get.ensures) (sym c.get-in-Parens-other.ensures) c.same_expr.ensures in
    let same = expr_parens c.in-Parens.inner c.in-Parens.line c.in-Parens-other.other c.in-Parens-other.line in
    of_these expr_on_line_1 c.args.some.now c.args.other.now _ _ c.same_expr.result c.in-Parens.is c.in-Parens-other.is
    (λ h. same.0 (told.0 h), λ e. told.1 (same.1 e))

pub same_expr-returns-in-Negate-other : goal.same_expr-returns-in-Negate-other
same_expr-returns-in-Negate-other t c =
    let told = of_these expr_on_line_1 c.in-Negate.operand c.in-Negate-other.other c.get-in-Negate-other.result.now c.get-in-Negate-other-2.result.now c.same_expr-in-Negate-other.result
    (sym c.get-in-Negate-other.ensures) (sym c.get-in-Negate-other-2.ensures) c.same_expr-in-Negate-other.ensures in
    let same = expr_negate c.in-Negate.operand c.in-Negate.line c.in-Negate-other.other c.in-Negate-other.line in
    of_these expr_on_line_1 c.args.some.now c.args.other.now _ _ c.same_expr-in-Negate-other.result c.in-Negate.is c.in-Negate-other.is
    (λ h. same.0 (told.0 h), λ e. told.1 (same.1 e))

pub same_exprs-returns-then-not-same_expr : goal.same_exprs-returns-then-not-same_expr
same_exprs-returns-then-not-same_expr t c = (
  λ h. cc,
  λ e.
      let same = same_at expr_on_line_1 c.as_slice-some.result.now c.as_slice-others.result.now c.loop-place.place
      c.index-some-place.result c.index-others-place.result c.loop-place-test.true c.if-some-others.false c.index-some-place.is c.index-others-place.is
      (ap (map expr_on_line_1) c.as_slice-some.ensures ∙ e ∙ ap (map expr_on_line_1) (sym c.as_slice-others.ensures)) in
      let told : c.same_expr.result ≡ true = c.same_expr.ensures.1 same in
      sym c.if-not-same_expr.true ∙ told,
)

pub same_expr-returns-then-not-same_expr : goal.same_expr-returns-then-not-same_expr
same_expr-returns-then-not-same_expr t c =
    let a = c.in-Binary in
    let b = c.in-Binary-other in
    let same = expr_binary a.operator a.left a.right a.line b.other b.first b.second b.line in
    let left = of_these expr_on_line_1 a.left b.first c.get-in-Binary-other.result.now c.get-in-Binary-other-2.result.now c.same_expr-in-Binary-other.result
    (sym c.get-in-Binary-other.ensures) (sym c.get-in-Binary-other-2.ensures) c.same_expr-in-Binary-other.ensures in
    of_these expr_on_line_1 c.args.some.now c.args.other.now _ _ false a.is b.is
    (refused (expr_on_line_1 a.left ≡ expr_on_line_1 b.first) _ c.same_expr-in-Binary-other.result left c.if-not-same_expr.true (λ e. (same.1 e).1))

pub same_expr-returns-else-not-same_expr : goal.same_expr-returns-else-not-same_expr
same_expr-returns-else-not-same_expr t c =
    let a = c.in-Binary in
    let b = c.in-Binary-other in
    let same = expr_binary a.operator a.left a.right a.line b.other b.first b.second b.line in
    let left = of_these expr_on_line_1 a.left b.first c.get-in-Binary-other.result.now c.get-in-Binary-other-2.result.now c.same_expr-in-Binary-other.result
    (sym c.get-in-Binary-other.ensures) (sym c.get-in-Binary-other-2.ensures) c.same_expr-in-Binary-other.ensures in
    let right = of_these expr_on_line_1 a.right b.second c.get-in-Binary-other-3.result.now c.get-in-Binary-other-4.result.now c.same_expr-in-Binary-other-2.result
    (sym c.get-in-Binary-other-3.ensures) (sym c.get-in-Binary-other-4.ensures) c.same_expr-in-Binary-other-2.ensures in
    of_these expr_on_line_1 c.args.some.now c.args.other.now _ _ c.same_expr-in-Binary-other-2.result a.is b.is
    (third _ _ _ _ c.same_expr-in-Binary-other-2.result (c.same-in-Binary-other.ensures.0 c.if-not-same.false) (left.0 c.if-not-same_expr.false) right same.0 same.1)

pub same_expr-returns-then-not-same_expr-2 : goal.same_expr-returns-then-not-same_expr-2
same_expr-returns-then-not-same_expr-2 t c =
    let a = c.in-Call in
    let b = c.in-Call-other in
    let same = expr_call a.receiver a.method a.arguments b.other b.name b.values in
    let target = of_these expr_on_line_1 a.receiver b.other c.get-in-Call-other.result.now c.get-in-Call-other-2.result.now c.same_expr-in-Call-other.result
    (sym c.get-in-Call-other.ensures) (sym c.get-in-Call-other-2.ensures) c.same_expr-in-Call-other.ensures in
    of_these expr_on_line_1 c.args.some.now c.args.other.now _ _ false a.is b.is
    (refused (expr_on_line_1 a.receiver ≡ expr_on_line_1 b.other) _ c.same_expr-in-Call-other.result target c.if-not-same_expr-2.true (λ e. (same.1 e).0))

pub same_expr-returns-else-not-same_expr-2 : goal.same_expr-returns-else-not-same_expr-2
same_expr-returns-else-not-same_expr-2 t c =
    let a = c.in-Call in
    let b = c.in-Call-other in
    let same = expr_call a.receiver a.method a.arguments b.other b.name b.values in
    let target = of_these expr_on_line_1 a.receiver b.other c.get-in-Call-other.result.now c.get-in-Call-other-2.result.now c.same_expr-in-Call-other.result
    (sym c.get-in-Call-other.ensures) (sym c.get-in-Call-other-2.ensures) c.same_expr-in-Call-other.ensures in
    of_these expr_on_line_1 c.args.some.now c.args.other.now _ _ c.same_exprs.result a.is b.is
    (third _ _ _ _ c.same_exprs.result (target.0 c.if-not-same_expr-2.false) (c.same_aside-in-Call-other.ensures.0 c.if-not-same_aside-2.false) c.same_exprs.ensures same.0 same.1)
