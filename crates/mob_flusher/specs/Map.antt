-- The objects of a repository as one finite map: what is in the buffer of modified objects, and else what is
-- in its page (Ghemawat, 1995; Liskov and others, SIGMOD 1996).
use Rattle.std.specs.Prelude.{◌≡◌, ℕ, ◌<◌, List, [], Option, Some, None}
use Rattle.thor_value.specs.FiniteMap.{get}
use Rattle.thor_value.specs.declared.names.Oref.{Oref}
use Rattle.thor_value.specs.declared.values.Obj.{Obj}
use Rattle.object_codec.specs.Spelling.{ObjFits, obj_bytes}
use Rattle.page_format.specs.Pages.{Contents}
use Rattle.page_format.specs.Sides.{side_in_use}
use Rattle.page_store.specs.Sides.{Shows}
use Rattle.page_store.specs.Store.{Store, with_side}
use Rattle.mob_buffer.specs.Buffer.{Buffer, object_of, with_all, without_page}

-- a store of objects: its pages, and the buffer over them
pub record Kept : Type 0 where
  pub pages : Store
  pub mob : Buffer

-- what a slot of a page has
abbrev pub PageHas : Contents → ℕ → Option Obj → Type 0
PageHas page slot (Some object) = (get page.objects slot ≡ Some (obj_bytes object)) × ObjFits object
PageHas page slot None = get page.objects slot ≡ None

-- what a name has in its page on the disk
abbrev pub DiskHas : List ℕ → List (ℕ × ℕ) → Oref → Option Obj → Type 0
DiskHas disk sides x answer = (page : Contents) × Shows disk (side_in_use sides x.page) x.page page × PageHas page x.slot answer

-- what a name has that the buffer gives this
abbrev pub HasOver : Option Obj → List ℕ → List (ℕ × ℕ) → Oref → Option Obj → Type 0
HasOver (Some object) disk sides x answer = answer ≡ Some object
HasOver None disk sides x answer = DiskHas disk sides x answer

-- The map: what a name has is what the buffer has of it, and else what its page has.
abbrev pub Has : List ℕ → Kept → Oref → Option Obj → Type 0
Has disk kept x answer = HasOver (object_of kept.mob.objects x) disk kept.pages.sides x answer

-- What a store over one disk has under the names of this repository, another has over another disk.
abbrev pub SameMap : List ℕ → Kept → List ℕ → Kept → ℕ → Type 0
SameMap before old after new repo = (x : Oref) (answer : Option Obj) → x.repo ≡ repo → x.slot < 12 → Has before old x answer → Has after new x answer

-- a store behind writes: its pages stay
abbrev pub with_writes : Kept → List (Oref × Obj) → Kept
with_writes kept writes = record kept { mob = record kept.mob { objects = with_all kept.mob.objects writes } }

-- the last object that writes have under a name
abbrev pub last_written : List (Oref × Obj) → Oref → Option Obj
last_written writes x = object_of (with_all [] writes) x

-- what a name has behind writes that write this under it, last
abbrev pub HasBehind : Option Obj → List ℕ → Kept → Kept → Oref → Type 0
HasBehind (Some object) disk old new x = Has disk new x (Some object)
HasBehind None disk old new x = (answer : Option Obj) → Has disk old x answer → Has disk new x answer

-- The map changed by these writes alone: a name has what was written last under it, and else what it had.
abbrev pub HasWrites : Kept → List (Oref × Obj) → Kept → Type 0
HasWrites old writes new = (disk : List ℕ) (x : Oref) → HasBehind (last_written writes x) disk old new x

-- a store where a side of a page was put in use, as a log tells
abbrev pub with_installed : Kept → ℕ → ℕ → Kept
with_installed kept page side = record { pages = with_side kept.pages page side; mob = record kept.mob { objects = without_page kept.mob.objects page } }
