-- How the worked rows write pieces of an upgrade. This project's.
use Rattle.std.specs.Prelude.{ℕ, true, false, List, [], ◌∷◌, codes, pos}
use Rattle.class_defs.specs.Shape.{Shape}
use Rattle.class_defs.specs.declared.expressions.Name.{Name}
use Rattle.class_defs.specs.declared.expressions.Operator.TheVariants.{Add, Subtract}
use Rattle.class_defs.specs.declared.expressions.TypeName.TheVariants as type_name
use Rattle.class_defs.specs.declared.literals.Literal.TheVariants as literal
use Rattle.class_defs.specs.declared.upgrades.FieldUpgrade.{FieldUpgrade}
use Rattle.class_defs.specs.declared.upgrades.Tf.{Tf}
use Rattle.class_defs.specs.declared.upgrades.Tf.TheVariants as tf
use Rattle.class_defs.specs.declared.upgrades.Upgrade.{Upgrade}

-- a name on the first line
abbrev pub named : List ℕ → Name
named text = record { text = text; line = 1 }

-- `old.` and a name
abbrev pub old : List ℕ → Tf
old text = tf.Path (named text ∷ []) 1

-- old.a - old.b - 1, to the left as the grammar has it, and to the right
abbrev pub to_the_left : Tf
to_the_left = tf.Binary Subtract (tf.Binary Subtract (old (codes "a")) (old (codes "b")) 1) (tf.Literal (literal.Int (pos 1)) 1) 2

abbrev pub to_the_right : Tf
to_the_right = tf.Binary Subtract (old (codes "a")) (tf.Binary Subtract (old (codes "b")) (tf.Literal (literal.Int (pos 1)) 1) 2) 1

-- int n = old.n + 1;
abbrev pub counted : FieldUpgrade
counted = record { type_name = type_name.Int 1; name = named (codes "n"); value = tf.Binary Add (old (codes "n")) (tf.Literal (literal.Int (pos 1)) 1) 1 }

-- upgrade { class Box { int n = old.n + 1; } }
abbrev pub box_upgrade : Upgrade
box_upgrade = record { line = 1; classes = record { name = named (codes "Box"); fields = counted ∷ []; methods = [] } ∷ [] }

-- upgrade { class Box { int n = old.n; } }
abbrev pub copied : Upgrade
copied = record { line = 1; classes = record { name = named (codes "Box"); fields = record counted { value = old (codes "n") } ∷ []; methods = [] } ∷ [] }

-- what the shape of an expression that the grammar has is, and of one that it hasn't
abbrev pub good : ℕ → ℕ → ℕ → Shape
good level depth nesting = record { level = level; depth = depth; nesting = nesting; proper = true }

abbrev pub bad : ℕ → ℕ → ℕ → Shape
bad level depth nesting = record { level = level; depth = depth; nesting = nesting; proper = false }
