-- Where a path may go on.
use Rattle.std.specs.Prelude.{List, [], ◌∷◌, Bool, true, Option}
use Rattle.class_defs.specs.UpgradeRules.{may_go_on}
use Rattle.class_defs.specs.declared.classes.Class.{Class}
use Rattle.class_defs.specs.declared.expressions.Name.{Name}
use Rattle.class_defs.specs.declared.types.ExprType.{ExprType}

-- whether a path ends at a value of this type, or may go on behind it by the names to come
abbrev pub goes_on : List Class → Option ExprType → List Name → Bool
goes_on classes t [] = true
goes_on classes t (name ∷ names) = may_go_on classes t
