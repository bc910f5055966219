-- Which upgrades the grammar has: how the operators of an expression group, and the limits. This project's.
use Rattle.std.specs.Prelude.{◌≡◌, ◌≤◌, ◌+◌, Bool, true, false, ◌&&◌, List, [], ◌∷◌, length, max, nat_le}
use Rattle.std.specs.List.{AllByRecursion}
use Rattle.class_defs.specs.Grammar.{IsMethod, max_depth, max_nesting}
use Rattle.class_defs.specs.Shape.{Shape, leaf, left_level, level_of, right_level}
use Rattle.class_defs.specs.declared.expressions.Name.{Name}
use Rattle.class_defs.specs.declared.literals.Literal.{Literal}
use Rattle.class_defs.specs.declared.literals.Literal.TheVariants as literal
use Rattle.class_defs.specs.declared.upgrades.ClassUpgrade.{ClassUpgrade}
use Rattle.class_defs.specs.declared.upgrades.FieldUpgrade.{FieldUpgrade}
use Rattle.class_defs.specs.declared.upgrades.Tf.{Tf}
use Rattle.class_defs.specs.declared.upgrades.Tf.TheFolds.{fold-Tf}
use Rattle.class_defs.specs.declared.upgrades.Tf.TheOpen.{Tf-F}
use Rattle.class_defs.specs.declared.upgrades.Upgrade.{Upgrade}

-- a path has at least one name behind `old`
abbrev pub has_names : List Name → Bool
has_names [] = false
has_names (name ∷ names) = true

-- what stands alone: its level is below that of every operand
abbrev pub alone : Shape
alone = record { level = 0; depth = 1; nesting = 0; proper = true }

-- a number may be an operand, and a text stands alone
abbrev pub literal_shape : Literal → Shape
literal_shape (literal.Int n) = leaf 0 true
literal_shape (literal.Text w) = alone

-- What is asked of the expression of a new field, with the shapes of its parts in their places: `null` and a text
-- stand alone, and there are no comparisons.
abbrev pub tf_shape_step : Tf-F Shape → Shape
tf_shape_step (Tf-F.Null line) = alone
tf_shape_step (Tf-F.Literal value line) = literal_shape value
tf_shape_step (Tf-F.Path names line) = leaf 0 (has_names names)
tf_shape_step (Tf-F.Parens inner line) =
    record { level = 5; depth = inner.depth + 1; nesting = inner.nesting + 1; proper = inner.proper && nat_le 1 inner.level }
tf_shape_step (Tf-F.Negate operand line) =
    record { level = 3; depth = operand.depth + 1; nesting = operand.nesting; proper = operand.proper && nat_le 3 operand.level }
tf_shape_step (Tf-F.Binary operator left right line) =
    record {
      level = level_of operator;
      depth = max left.depth right.depth + 1;
      nesting = max left.nesting right.nesting;
      proper = nat_le 1 (level_of operator)
          && ((left.proper && nat_le (left_level operator) left.level) && (right.proper && nat_le (right_level operator) right.level));
    }

-- the shape of the expression of a new field
abbrev pub tf_shape : Tf → Shape
tf_shape = fold-Tf Shape tf_shape_step

-- an expression that a new field may have
pub record IsTf (tf : Tf) : Type 0 where
  pub depth : (tf_shape tf).depth ≤ max_depth
  pub nesting : (tf_shape tf).nesting ≤ max_nesting
  pub proper : (tf_shape tf).proper ≡ true

abbrev pub IsFieldUpgrade : FieldUpgrade → Type 0
IsFieldUpgrade field = IsTf field.value

pub record IsClassUpgrade (class : ClassUpgrade) : Type 0 where
  pub fields : length class.fields ≤ 32
  pub each_field : AllByRecursion IsFieldUpgrade class.fields
  pub methods : length class.methods ≤ 64
  pub each_method : AllByRecursion IsMethod class.methods

-- An upgrade names at least one class. How many it names at most is no matter of the grammar.
pub record IsUpgrade (upgrade : Upgrade) : Type 0 where
  pub some : 1 ≤ length upgrade.classes
  pub each : AllByRecursion IsClassUpgrade upgrade.classes
