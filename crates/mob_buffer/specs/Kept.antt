-- What holds of each buffer.
use Rattle.std.specs.Prelude.{◌≡◌, ℕ, ◌+◌, ◌-◌, ◌*◌, ◌^◌, ◌<◌, ◌≤◌, List, [], fold, is_some, length, if◌then◌else◌}
use Rattle.std.specs.List.{AllByRecursion}
use Rattle.std.specs.Map.{set_value}
use Rattle.std.specs.Option.{option_map, unwrap_or}
use Rattle.thor_value.specs.declared.names.Oref.{Oref}
use Rattle.thor_value.specs.declared.values.Obj.{Obj}
use Rattle.object_codec.specs.Spelling.{obj_bytes}
use Rattle.mob_buffer.specs.Buffer.{AreOf, Objects, bytes_of, object_of, same_name, with_all, with_object}

-- no number of objects is too many
abbrev pub IsUnbounded : ℕ → Type 0
IsUnbounded most = most ≡ 2 ^ 64 - 1

-- the bytes are counted, all objects are of one repository, and there may be any number of them
pub record Keeps (objects : Objects) (most bytes repo : ℕ) : Type 0 where
  pub counted : bytes ≡ bytes_of objects
  pub one_repo : AreOf repo objects
  pub unbounded : IsUnbounded most

-- an object without fields
abbrev pub blank : Obj
blank = record { class = 0; ver = 0; fields = [] }

-- objects where a name has one, if only a blank one
abbrev pub placed : Objects → Oref → Objects
placed objects x = if is_some (object_of objects x) then objects else with_object objects x blank

-- objects where each name that is written has one
abbrev pub with_places : Objects → List (Oref × Obj) → Objects
with_places objects writes = fold (λ done w. placed done w.0) objects writes

-- objects behind writes to names that have one
abbrev pub with_values : Objects → List (Oref × Obj) → Objects
with_values objects writes = fold (λ done w. set_value (same_name w.0) done w.1) objects writes

abbrev pub size_of : Obj → ℕ
size_of object = length (obj_bytes object)

-- what the object of a name has, where there is one
abbrev pub size_at : Objects → Oref → ℕ
size_at objects x = unwrap_or (option_map size_of (object_of objects x)) 0

-- what the object of a name has behind a write, where it has so many bytes before
abbrev pub size_behind_one : Oref × Obj → Oref → ℕ → ℕ
size_behind_one write x before = if same_name x write.0 then size_of write.1 else before

-- a number for a name that rises with it
abbrev pub rank_of : Oref → ℕ
rank_of x = (x.repo * 2 ^ 32 + x.page) * 256 + x.slot

-- how many bytes the objects have behind writes, and a number above the ranks of the names written
pub record Tallied (objects : Objects) (writes : List (Oref × Obj)) (total bound : ℕ) : Type 0 where
  pub is : total ≡ bytes_of (with_all objects writes)
  pub most : total ≤ 2 ^ 32 + 1095 * length writes
  pub bounded : AllByRecursion (λ w. rank_of w.0 < bound) writes
