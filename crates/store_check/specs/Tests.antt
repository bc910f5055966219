-- Tests of single objects, as they are computed.
use Rattle.class_defs.specs.Epochs.{classes_of}
use Rattle.class_defs.specs.Ownership.{type_at}
use Rattle.class_defs.specs.Rules.{is_part}
use Rattle.class_defs.specs.Stored.{Objects}
use Rattle.class_defs.specs.declared.classes.Class.{Class}
use Rattle.class_defs.specs.declared.store.Root.{Root}
use Rattle.class_defs.specs.declared.store.Schemas.{Schemas}
use Rattle.class_defs.specs.declared.store.UpgradedSchema.{UpgradedSchema}
use Rattle.class_defs.specs.declared.types.ExprType.{ExprType}
use Rattle.class_defs.specs.declared.types.ExprType.TheVariants as type
use Rattle.store_check.specs.Naming.{Namings, is_kept}
use Rattle.store_check.specs.Ways.{Ways, is_way_for, way_or_none}
use Rattle.store_check.specs.declared.naming.Naming.{Naming}
use Rattle.store_check.specs.declared.ways.Way.{Way}
use Rattle.std.specs.List.{fold}
use Rattle.std.specs.Ordering.{is_lt}
use Rattle.std.specs.Prelude.{Bool, List, Option, Some, None, false, if◌then◌else◌, length, nat_lt, slice_get, suc, true, zero, ℕ, ◌==◌}
use Rattle.thor_value.specs.FiniteMap.{get}
use Rattle.thor_value.specs.Names.{oref_cmp}
use Rattle.thor_value.specs.declared.names.Oref.{Oref}
use Rattle.thor_value.specs.declared.values.Obj.{Obj}
use Rattle.thor_value.specs.declared.values.Value.{Value}
use Rattle.thor_value.specs.declared.values.Value.TheVariants as value

abbrev pub is_class : Option Obj → ℕ → Bool
is_class (Some o) c = o.class == c
is_class None c = false

-- whether a name has an object of a class
abbrev pub is_of_class : Objects → ℕ → Oref → Bool
is_of_class m c z = is_class (get m z) c

-- whether a value is of a type, and a reference names an object of just that class
abbrev pub value_fits : Objects → ExprType → Value → Bool
value_fits m type.Int (value.Int n) = true
value_fits m type.Int (value.Ref z) = false
value_fits m type.Int value.Null = false
value_fits m type.Int (value.Text w) = false
value_fits m type.Text (value.Int n) = false
value_fits m type.Text (value.Ref z) = false
value_fits m type.Text value.Null = false
value_fits m type.Text (value.Text w) = true
value_fits m type.Null (value.Int n) = false
value_fits m type.Null (value.Ref z) = false
value_fits m type.Null value.Null = true
value_fits m type.Null (value.Text w) = false
value_fits m (type.Class c) (value.Int n) = false
value_fits m (type.Class c) (value.Ref z) = is_of_class m c z
value_fits m (type.Class c) value.Null = true
value_fits m (type.Class c) (value.Text w) = false
value_fits m type.Untold (value.Int n) = false
value_fits m type.Untold (value.Ref z) = false
value_fits m type.Untold value.Null = true
value_fits m type.Untold (value.Text w) = false

abbrev pub typed_fits : Objects → Option ExprType → Option Value → Bool
typed_fits m (Some t) (Some v) = value_fits m t v
typed_fits m (Some t) None = false
typed_fits m None (Some v) = false
typed_fits m None None = false

-- whether the i-th field of an object is there, and its value is of its type
unfoldable pub field_fits : Schemas → Objects → Obj → ℕ → Bool
field_fits s m o i = typed_fits m (type_at (classes_of s o.ver) o.class i) (slice_get o.fields i)

abbrev pub counted_as : Option Class → Obj → Bool
counted_as None o = false
counted_as (Some c) o = length c.fields == length o.fields

-- whether an object is of a class that is there, and has as many values as fields
unfoldable pub is_counted : Schemas → Obj → Bool
is_counted s o = counted_as (slice_get (classes_of s o.ver) o.class) o

-- whether a root's name has a free object of its class
abbrev pub root_fits : Schemas → Objects → Root → Bool
root_fits s m r = if is_part (classes_of s 0) (type.Class r.class) then false else is_of_class m r.class r.oref

-- whether the first k fields of an object do so
unfoldable pub fields_fit : Schemas → Objects → Obj → ℕ → Bool
fields_fit s m o zero = true
fields_fit s m o (suc k) = if field_fits s m o k then fields_fit s m o k else false

-- whether an object is of its class, and its references name objects of the declared classes
abbrev pub kinds_fit : Schemas → Objects → Obj → Bool
kinds_fit s m o = if is_counted s o then fields_fit s m o (length o.fields) else false

-- whether a part is named once at most, as it may be, and its way up ends and holds
abbrev pub part_fits : Option Naming → Option Way → ℕ → Bool
part_fits w v ver = if is_kept w then is_way_for ver (way_or_none v) else false

-- whether the object of a name fits, if there is one
abbrev pub object_fits : Schemas → Objects → Option Naming → Option Way → Option Obj → Bool
object_fits s m w v None = true
object_fits s m w v (Some o) = if kinds_fit s m o then (if is_part (classes_of s 0) (type.Class o.class) then part_fits w v o.ver else true) else false

-- the lesser of two names
abbrev pub lesser : Option Oref → Oref → Oref
lesser None x = x
lesser (Some y) x = if is_lt (oref_cmp x y) then x else y

-- the least of the names that don't fit, with one name more
abbrev pub least_with : Bool → Oref → Option Oref → Option Oref
least_with true x found = found
least_with false x found = Some (lesser found x)

-- whether each of these epochs has at most 2^16 classes
abbrev pub numbered : List UpgradedSchema → Bool
numbered us = fold (λ b u. if nat_lt 65536 (length u.schema.classes) then false else b) true us

-- the least name of these whose object doesn't fit
abbrev pub least_name : Schemas → Objects → Namings → Ways → List Oref → Option Oref
least_name s m n ws names = fold (λ found x. least_with (object_fits s m (get n x) (get ws x) (get m x)) x found) None names

-- the lesser of a name and the least one of a root that doesn't fit
abbrev pub least_root : Schemas → Objects → List Root → Option Oref → Option Oref
least_root s m roots found = fold (λ least r. least_with (root_fits s m r) r.oref least) found roots
