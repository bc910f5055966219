use Rattle.std.proofs.Common.{◌≡◌, false, sym}
use Rattle.class_defs.specs.UpgradeLinesAside.{tf_on_line_1}
use Rattle.serial_model.proofs.AsideForms.{of_these, refused, tf_binary, tf_negate, tf_parens, third}
use Rattle.serial_model.proofs.lines_aside.+same_tf.Goals as goal

pub returns-in-Parens-other : goal.returns-in-Parens-other
returns-in-Parens-other t c =
    let told = of_these tf_on_line_1 c.in-Parens.inner c.in-Parens-other.other c.get.result.now c.get-in-Parens-other.result.now c.same_tf.result
    (sym c.get.ensures) (sym c.get-in-Parens-other.ensures) c.same_tf.ensures in
    let same = tf_parens c.in-Parens.inner c.in-Parens.line c.in-Parens-other.other c.in-Parens-other.line in
    of_these tf_on_line_1 c.args.some.now c.args.other.now _ _ c.same_tf.result c.in-Parens.is c.in-Parens-other.is
    (λ h. same.0 (told.0 h), λ e. told.1 (same.1 e))

pub returns-in-Negate-other : goal.returns-in-Negate-other
returns-in-Negate-other t c =
    let told = of_these tf_on_line_1 c.in-Negate.operand c.in-Negate-other.other c.get-in-Negate-other.result.now c.get-in-Negate-other-2.result.now c.same_tf-in-Negate-other.result
    (sym c.get-in-Negate-other.ensures) (sym c.get-in-Negate-other-2.ensures) c.same_tf-in-Negate-other.ensures in
    let same = tf_negate c.in-Negate.operand c.in-Negate.line c.in-Negate-other.other c.in-Negate-other.line in
    of_these tf_on_line_1 c.args.some.now c.args.other.now _ _ c.same_tf-in-Negate-other.result c.in-Negate.is c.in-Negate-other.is
    (λ h. same.0 (told.0 h), λ e. told.1 (same.1 e))

pub returns-then-not-same_tf : goal.returns-then-not-same_tf
returns-then-not-same_tf t c =
    let a = c.in-Binary in
    let b = c.in-Binary-other in
    let same = tf_binary a.operator a.left a.right a.line b.other b.first b.second b.line in
    let left = of_these tf_on_line_1 a.left b.first c.get-in-Binary-other.result.now c.get-in-Binary-other-2.result.now c.same_tf-in-Binary-other.result
    (sym c.get-in-Binary-other.ensures) (sym c.get-in-Binary-other-2.ensures) c.same_tf-in-Binary-other.ensures in
    of_these tf_on_line_1 c.args.some.now c.args.other.now _ _ false a.is b.is
    (refused (tf_on_line_1 a.left ≡ tf_on_line_1 b.first) _ c.same_tf-in-Binary-other.result left c.if-not-same_tf.true (λ e. (same.1 e).1))

pub returns-else-not-same_tf : goal.returns-else-not-same_tf
returns-else-not-same_tf t c =
    let a = c.in-Binary in
    let b = c.in-Binary-other in
    let same = tf_binary a.operator a.left a.right a.line b.other b.first b.second b.line in
    let left = of_these tf_on_line_1 a.left b.first c.get-in-Binary-other.result.now c.get-in-Binary-other-2.result.now c.same_tf-in-Binary-other.result
    (sym c.get-in-Binary-other.ensures) (sym c.get-in-Binary-other-2.ensures) c.same_tf-in-Binary-other.ensures in
    let right = of_these tf_on_line_1 a.right b.second c.get-in-Binary-other-3.result.now c.get-in-Binary-other-4.result.now c.same_tf-in-Binary-other-2.result
    (sym c.get-in-Binary-other-3.ensures) (sym c.get-in-Binary-other-4.ensures) c.same_tf-in-Binary-other-2.ensures in
    of_these tf_on_line_1 c.args.some.now c.args.other.now _ _ c.same_tf-in-Binary-other-2.result a.is b.is
    (third _ _ _ _ c.same_tf-in-Binary-other-2.result (c.same-in-Binary-other.ensures.0 c.if-not-same.false) (left.0 c.if-not-same_tf.false) right same.0 same.1)
