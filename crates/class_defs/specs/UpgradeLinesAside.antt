-- An upgrade as if all its text stood on line 1: what is left of it, lines aside. This project's.
use Rattle.std.specs.Prelude.{map}
use Rattle.class_defs.specs.declared.upgrades.ClassUpgrade.{ClassUpgrade}
use Rattle.class_defs.specs.declared.upgrades.FieldUpgrade.{FieldUpgrade}
use Rattle.class_defs.specs.declared.upgrades.Tf.{Tf}
use Rattle.class_defs.specs.declared.upgrades.Tf.TheFolds.{fold-Tf}
use Rattle.class_defs.specs.declared.upgrades.Tf.TheOpen.{Tf-F}
use Rattle.class_defs.specs.declared.upgrades.Tf.TheVariants as tf
use Rattle.class_defs.specs.declared.upgrades.Upgrade.{Upgrade}
use Rattle.class_defs.specs.LinesAside.{method_on_line_1, name_on_line_1, type_on_line_1}

-- an expression whose parts stand on line 1
abbrev pub tf_step_on_line_1 : Tf-F Tf → Tf
tf_step_on_line_1 (Tf-F.Null line) = tf.Null 1
tf_step_on_line_1 (Tf-F.Literal value line) = tf.Literal value 1
tf_step_on_line_1 (Tf-F.Path names line) = tf.Path (map name_on_line_1 names) 1
tf_step_on_line_1 (Tf-F.Parens inner line) = tf.Parens inner 1
tf_step_on_line_1 (Tf-F.Negate operand line) = tf.Negate operand 1
tf_step_on_line_1 (Tf-F.Binary operator left right line) = tf.Binary operator left right 1

abbrev pub tf_on_line_1 : Tf → Tf
tf_on_line_1 = fold-Tf Tf tf_step_on_line_1

abbrev pub field_on_line_1 : FieldUpgrade → FieldUpgrade
field_on_line_1 field =
    record { type_name = type_on_line_1 field.type_name; name = name_on_line_1 field.name; value = tf_on_line_1 field.value }

abbrev pub class_on_line_1 : ClassUpgrade → ClassUpgrade
class_on_line_1 class =
    record {
      name = name_on_line_1 class.name;
      fields = map field_on_line_1 class.fields;
      methods = map method_on_line_1 class.methods;
    }

abbrev pub upgrade_on_line_1 : Upgrade → Upgrade
upgrade_on_line_1 upgrade = record { line = 1; classes = map class_on_line_1 upgrade.classes }
