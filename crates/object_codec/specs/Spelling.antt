-- The bytes of objects (this project's). A page holds twelve objects of the greatest size, so an object
-- has few fields.
use Rattle.std.specs.Prelude.{◌≡◌, ℕ, ◌<◌, ◌≤◌, ◌^◌, List, ◌∷◌, ◌++◌, length, Some, slice_get, Result, Err}
use Rattle.std.specs.List.{flat_map, AllByRecursion}
use Rattle.std.specs.Int.{w16, w32, to_be_bytes}
use Rattle.thor_value.specs.declared.values.Obj.{Obj}
use Rattle.thor_value.specs.Spelling.{ValueFits, value_bytes}
use Rattle.object_codec.specs.declared.fault.ObjFault.{ObjFault}
use Rattle.object_codec.specs.declared.fault.ObjFault.TheVariants as faults

-- the most fields of an object
abbrev pub most_fields : ℕ
most_fields = 32

-- the objects that a store can have
pub record ObjFits (o : Obj) : Type 0 where
  pub class : o.class < 2 ^ 16
  pub ver : o.ver < 2 ^ 32
  pub count : length o.fields ≤ most_fields
  pub fields : AllByRecursion ValueFits o.fields

-- an object: two bytes of class, four of version, one that counts the fields, and the fields' values
abbrev pub obj_bytes : Obj → List ℕ
obj_bytes o = (to_be_bytes w16 o.class ++ to_be_bytes w32 o.ver) ++ (length o.fields ∷ flat_map value_bytes o.fields)

-- the count of fields stands in the bytes, and is this
abbrev pub HasCount : List ℕ → ℕ → Type 0
HasCount bytes count = slice_get bytes 6 ≡ Some count

-- a call answered so, unless memory ran out
abbrev pub Answered : {X : Type 0} → Result X ObjFault → Result X ObjFault → Type 0
Answered (Err faults.NoMemory) answer = Unit {0}
Answered r answer = r ≡ answer
