-- The objects of a stored map, put one after the other into another map with their values in an epoch.
use Rattle.class_defs.specs.Eager.{value}
use Rattle.class_defs.specs.Stored.{Objects}
use Rattle.class_defs.specs.declared.store.Object.{Object}
use Rattle.class_defs.specs.declared.store.Schemas.{Schemas}
use Rattle.std.specs.List.{fold}
use Rattle.std.specs.Prelude.{List, None, Option, Some, ℕ}
use Rattle.thor_value.specs.FiniteMap.{Map, get, insert}
use Rattle.thor_value.specs.Names.{oref_cmp}
use Rattle.thor_value.specs.declared.names.Oref.{Oref}
use Rattle.thor_value.specs.declared.values.Obj.{Obj}

abbrev pub with_found : (Obj → Object) → Map oref_cmp Object → Oref → Option Obj → Map oref_cmp Object
with_found f made x (Some o) = insert made x (f o)
with_found f made x None = made

-- the object of a name, where there is one
abbrev pub with_one : Schemas → Objects → ℕ → Map oref_cmp Object → Oref → Map oref_cmp Object
with_one s m k made x = with_found (value s m k) made x (get m x)

-- those of some names
abbrev pub with_all : Schemas → Objects → ℕ → Map oref_cmp Object → List Oref → Map oref_cmp Object
with_all s m k made names = fold (with_one s m k) made names
