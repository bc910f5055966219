-- The values of the expressions of upgrades, by their form.
use Rattle.std.proofs.Common.{◌≡◌, ℕ, List, Option, ap, ◌∙◌, sym}
use Rattle.thor_value.specs.declared.names.Oref.{Oref}
use Rattle.thor_value.specs.declared.values.Value.{Value}
use Rattle.class_defs.specs.Upgrades.{tf_step, tf_value}
use Rattle.class_defs.specs.declared.classes.Class.{Class}
use Rattle.class_defs.specs.declared.expressions.Name.{Name}
use Rattle.class_defs.specs.declared.expressions.Operator.{Operator}
use Rattle.class_defs.specs.declared.store.Object.{Object}
use Rattle.class_defs.specs.declared.upgrades.Tf.{Tf, map-Tf}
use Rattle.class_defs.specs.declared.upgrades.Tf.TheFolds.{fold-roll-Tf}
use Rattle.class_defs.specs.declared.upgrades.Tf.TheOpen.{Tf-F}
use Rattle.class_defs.specs.declared.upgrades.Tf.TheVariants as tf

module _ (classes : List Class) (objects : Oref → Option Object) (o : Object) where
  pub value_of_path : (names : List Name) (line : ℕ) → tf_value classes objects o (tf.Path names line) ≡ tf_step classes objects o (map-Tf Tf (Option Value) (tf_value classes objects o) (Tf-F.Path names line))
  unfolding tf_value
  value_of_path names line = ap (tf_value classes objects o) (sym (tf.rolls-Path names line)) ∙ fold-roll-Tf (Option Value) (tf_step classes objects o) (Tf-F.Path names line)

  pub value_of_binary : (operator : Operator) (left right : Tf) (line : ℕ) → tf_value classes objects o (tf.Binary operator left right line) ≡ tf_step classes objects o (map-Tf Tf (Option Value) (tf_value classes objects o) (Tf-F.Binary operator left right line))
  unfolding tf_value
  value_of_binary operator left right line = ap (tf_value classes objects o) (sym (tf.rolls-Binary operator left right line)) ∙ fold-roll-Tf (Option Value) (tf_step classes objects o) (Tf-F.Binary operator left right line)

-- the forms
pub ruleset tf_forms = (value_of_path, value_of_binary)
