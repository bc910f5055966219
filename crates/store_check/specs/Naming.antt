-- By which fields the objects of a map are named, noted field by field.
use Rattle.class_defs.specs.Epochs.{classes_of}
use Rattle.class_defs.specs.Ownership.{type_at}
use Rattle.class_defs.specs.Rules.{is_part}
use Rattle.class_defs.specs.Stored.{Objects}
use Rattle.class_defs.specs.declared.store.Schemas.{Schemas}
use Rattle.class_defs.specs.declared.types.ExprType.{ExprType}
use Rattle.std.specs.List.{fold}
use Rattle.std.specs.Prelude.{Bool, List, Option, Some, None, false, if◌then◌else◌, length, slice_get, suc, true, zero, ℕ, ◌&&◌, ◌==◌}
use Rattle.thor_value.specs.FiniteMap.{Map, empty, get, insert, keys}
use Rattle.thor_value.specs.Names.{oref_cmp, same_oref}
use Rattle.thor_value.specs.declared.names.Oref.{Oref}
use Rattle.thor_value.specs.declared.values.Obj.{Obj}
use Rattle.thor_value.specs.declared.values.Value.{Value}
use Rattle.thor_value.specs.declared.values.Value.TheVariants as value
use Rattle.store_check.specs.declared.naming.Naming.{Naming}
use Rattle.store_check.specs.declared.naming.Naming.TheVariants.{Once, Several}

-- how each object is named that a field names
abbrev pub Namings : Type 0
Namings = Map oref_cmp Naming

abbrev pub is_part_type : Schemas → Option ExprType → Bool
is_part_type s (Some t) = is_part (classes_of s 0) t
is_part_type s None = false

-- whether the i-th field of an object is an owned one
unfoldable pub is_owned_field : Schemas → Obj → ℕ → Bool
is_owned_field s o i = is_part_type s (type_at (classes_of s o.ver) o.class i)

-- one more field that names an object
abbrev pub joined : Oref → ℕ → Bool → Option Naming → Naming
joined a i owned None = Once a i owned
joined a i owned (Some (Once b j known)) = if same_oref a b && (i == j) then Once b j known else Several
joined a i owned (Some Several) = Several

-- the notes behind the value of a field
abbrev pub noted : Schemas → Namings → Oref → Obj → ℕ → Option Value → Namings
noted s n a o i (Some (value.Ref z)) = insert n z (joined a i (is_owned_field s o i && (a.repo == z.repo)) (get n z))
noted s n a o i (Some (value.Int k)) = n
noted s n a o i (Some value.Null) = n
noted s n a o i (Some (value.Text w)) = n
noted s n a o i None = n

-- the notes behind the first k fields of an object
unfoldable pub noted_fields : Schemas → Namings → Oref → Obj → ℕ → Namings
noted_fields s n a o zero = n
noted_fields s n a o (suc k) = noted s (noted_fields s n a o k) a o k (slice_get o.fields k)

abbrev pub noted_object : Schemas → Namings → Oref → Option Obj → Namings
noted_object s n a (Some o) = noted_fields s n a o (length o.fields)
noted_object s n a None = n

-- the notes behind the object of a name, if there is one
unfoldable pub noted_name : Schemas → Objects → Namings → Oref → Namings
noted_name s m n a = noted_object s n a (get m a)

-- the notes behind the objects of these names
abbrev pub noted_names : Schemas → Objects → List Oref → Namings
noted_names s m names = fold (λ n a. noted_name s m n a) empty names

-- how the objects of a map are named
unfoldable pub namings : Schemas → Objects → Namings
namings s m = noted_names s m (keys m)

-- the one that alone names an object, by an owned field in the same repository
abbrev pub sole : Option Naming → Option Oref
sole (Some (Once a i owned)) = if owned then Some a else None
sole (Some Several) = None
sole None = None

-- whether an object is named at most once, by an owned field in its repository
abbrev pub is_kept : Option Naming → Bool
is_kept None = true
is_kept (Some (Once a i owned)) = owned
is_kept (Some Several) = false
