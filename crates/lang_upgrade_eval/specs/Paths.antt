-- What a walk along a path says on its way.
use Rattle.std.specs.Prelude.{List, [], ◌∷◌, Option}
use Rattle.thor_value.specs.declared.names.Oref.{Oref}
use Rattle.thor_value.specs.declared.values.Value.{Value}
use Rattle.class_defs.specs.Upgrades.{path_value}
use Rattle.class_defs.specs.declared.classes.Class.{Class}
use Rattle.class_defs.specs.declared.expressions.Name.{Name}
use Rattle.class_defs.specs.declared.store.Object.{Object}

-- what a path leads to whose names so far led to a value, and to an object if it names one
abbrev pub path_from : List Class → (Oref → Option Object) → Option Value → Option Object → List Name → Option Value
path_from classes objects value o [] = value
path_from classes objects value o (name ∷ names) = path_value classes objects o (name ∷ names)
