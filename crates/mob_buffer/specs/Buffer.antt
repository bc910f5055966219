-- The buffer of modified objects (MOB: Ghemawat, 1995; Liskov and others, SIGMOD 1996): objects that were
-- committed and don't stand in their pages yet.
use Rattle.std.specs.Prelude.{◌≡◌, ℕ, ◌<◌, ◌≤◌, Bool, true, false, ◌&&◌, ◌==◌, not, ◌+◌, List, [], ◌∷◌, length, filter, Option, Some, None}
use Rattle.std.specs.List.{AllByRecursion, IsDistinct, list_any}
use Rattle.std.specs.Map.{keys_of, lookup}
use Rattle.indexmap.specs.IndexMap.{insert_all, insert_entry}
use Rattle.thor_value.specs.declared.names.Oref.{Oref}
use Rattle.thor_value.specs.declared.values.Obj.{Obj}
use Rattle.thor_value.specs.Spelling.{OrefFits}
use Rattle.object_codec.specs.Spelling.{ObjFits, obj_bytes}

-- objects under their names, in the order in which the names came in
abbrev pub Objects : Type 0
Objects = List (Oref × Obj)

-- what a buffer is: the most bytes that it takes, and its objects
pub record Buffer : Type 0 where
  pub limit : ℕ
  pub objects : Objects

-- whether two names are one
abbrev pub same_name : Oref → Oref → Bool
same_name x y = (x.repo == y.repo) && ((x.page == y.page) && (x.slot == y.slot))

-- the object of a name
abbrev pub object_of : Objects → Oref → Option Obj
object_of objects x = lookup (same_name x) objects

-- an object in the place of the one that has its name, or behind all
abbrev pub with_object : Objects → Oref → Obj → Objects
with_object objects x object = insert_entry same_name objects x object

-- the objects behind writes, one after the other
abbrev pub with_all : Objects → List (Oref × Obj) → Objects
with_all objects writes = insert_all same_name objects writes

-- the objects of the other pages
abbrev pub without_page : Objects → ℕ → Objects
without_page objects page = filter (λ q. not (q.0.page == page)) objects

-- the bytes of all the objects as they are spelled
abbrev pub bytes_of : Objects → ℕ
bytes_of [] = 0
bytes_of (q ∷ objects) = length (obj_bytes q.1) + bytes_of objects

-- whether an object of the page stands in this slot
abbrev pub has_slot : Objects → ℕ → ℕ → Bool
has_slot objects page slot = list_any (λ q. (page == q.0.page) && (slot == q.0.slot)) objects

-- the first slot of a page from a least one on that has an object, or none
abbrev pub IsNextSlot : Objects → ℕ → ℕ → Option ℕ → Type 0
IsNextSlot objects page low (Some slot) = (low ≤ slot) × (slot < 12) × (has_slot objects page slot ≡ true) × ((s : ℕ) → low ≤ s → s < slot → has_slot objects page s ≡ false)
IsNextSlot objects page low None = (s : ℕ) → low ≤ s → has_slot objects page s ≡ false

-- the least slot behind another, or the least of all
abbrev pub slot_after : Option ℕ → ℕ
slot_after (Some slot) = slot + 1
slot_after None = 0

-- an object of this repository, with a name and values that a store can have
pub record IsOf (repo : ℕ) (q : Oref × Obj) : Type 0 where
  pub repo_is : q.0.repo ≡ repo
  pub name : OrefFits q.0
  pub object : ObjFits q.1

-- all the objects are of one repository
abbrev pub AreOf : ℕ → Objects → Type 0
AreOf repo objects = AllByRecursion (IsOf repo) objects

-- a name and an object that a store can have
abbrev pub CanStand : Oref × Obj → Type 0
CanStand w = OrefFits w.0 × ObjFits w.1

-- the objects and the writes are of one repository
abbrev pub AreOneRepo : Objects → List (Oref × Obj) → Type 0
AreOneRepo objects writes = (repo : ℕ) × AreOf repo objects × AreOf repo writes

-- no two objects have one name
abbrev pub AreDistinct : Objects → Type 0
AreDistinct objects = IsDistinct same_name (keys_of objects)
