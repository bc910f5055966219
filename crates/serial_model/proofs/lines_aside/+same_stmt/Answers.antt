use Rattle.std.proofs.Common.{◌≡◌, ap, false, map, sym, true, ◌∙◌}
use Rattle.class_defs.specs.LinesAside.{block_on_line_1, stmt_on_line_1}
use Rattle.serial_model.proofs.Aside.{same_at}
use Rattle.serial_model.proofs.AsideForms.{of_these, refused, second, stmt_if, stmt_if_else, stmt_while, third}
use Rattle.serial_model.proofs.lines_aside.+same_stmt.Goals as goal

pub same_block-returns-then-not-same_stmt : goal.same_block-returns-then-not-same_stmt
same_block-returns-then-not-same_stmt t c = (
  λ h. cc,
  λ e.
      let same = same_at stmt_on_line_1 c.as_slice-some.result.now c.as_slice-others.result.now c.loop-place.place
      c.index-some-place.result c.index-others-place.result c.loop-place-test.true c.if-some-others.false c.index-some-place.is c.index-others-place.is
      (ap (map stmt_on_line_1) c.as_slice-some.ensures ∙ e ∙ ap (map stmt_on_line_1) (sym c.as_slice-others.ensures)) in
      let told : c.same_stmt.result ≡ true = c.same_stmt.ensures.1 same in
      sym c.if-not-same_stmt.true ∙ told,
)

pub same_stmt-returns-else-not-same_expr : goal.same_stmt-returns-else-not-same_expr
same_stmt-returns-else-not-same_expr t c =
    let a = c.in-If in
    let b = c.in-If-other in
    let same = stmt_if a.condition a.then b.other b.block in
    of_these stmt_on_line_1 c.args.some.now c.args.other.now _ _ c.same_block.result a.is b.is
    (second _ _ _ c.same_block.result (c.same_expr-in-If-other.ensures.0 c.if-not-same_expr.false) c.same_block.ensures same.0 same.1)

pub same_stmt-returns-then-not-same_block : goal.same_stmt-returns-then-not-same_block
same_stmt-returns-then-not-same_block t c =
    let a = c.in-IfElse in
    let b = c.in-IfElse-other in
    let same = stmt_if_else a.condition a.then a.otherwise b.other b.first b.second in
    of_these stmt_on_line_1 c.args.some.now c.args.other.now _ _ false a.is b.is
    (refused (block_on_line_1 a.then ≡ block_on_line_1 b.first) _ c.same_block-in-IfElse-other.result c.same_block-in-IfElse-other.ensures c.if-not-same_block.true (λ e. (same.1 e).1))

pub same_stmt-returns-else-not-same_block : goal.same_stmt-returns-else-not-same_block
same_stmt-returns-else-not-same_block t c =
    let a = c.in-IfElse in
    let b = c.in-IfElse-other in
    let same = stmt_if_else a.condition a.then a.otherwise b.other b.first b.second in
    of_these stmt_on_line_1 c.args.some.now c.args.other.now _ _ c.same_block-in-IfElse-other-2.result a.is b.is
    (third _ _ _ _ c.same_block-in-IfElse-other-2.result (c.same_expr-in-IfElse-other.ensures.0 c.if-not-same_expr-2.false) (c.same_block-in-IfElse-other.ensures.0 c.if-not-same_block.false) c.same_block-in-IfElse-other-2.ensures same.0 same.1)

pub same_stmt-returns-else-not-same_expr-3 : goal.same_stmt-returns-else-not-same_expr-3
same_stmt-returns-else-not-same_expr-3 t c =
    let a = c.in-While in
    let b = c.in-While-other in
    let same = stmt_while a.condition a.body b.other b.block in
    of_these stmt_on_line_1 c.args.some.now c.args.other.now _ _ c.same_block-in-While-other.result a.is b.is
    (second _ _ _ c.same_block-in-While-other.result (c.same_expr-in-While-other.ensures.0 c.if-not-same_expr-3.false) c.same_block-in-While-other.ensures same.0 same.1)
