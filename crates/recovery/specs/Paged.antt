-- The objects that stand on the pages of a repository (this project's): those of each installed page, on the side of it
-- that is in use, at the place and in the format that the format of the store tells.
use Rattle.disk_trait.specs.Disks.{Disks, NoNewImage, OnDisk, WhereTold}
use Rattle.mob_flusher.specs.Images.{name_of}
use Rattle.object_codec.specs.Spelling.{ObjFits, obj_bytes}
use Rattle.page_format.specs.Formats.{page_size_in}
use Rattle.page_format.specs.Pages.{Contents}
use Rattle.page_format.specs.declared.format.StoreFormat.{StoreFormat}
use Rattle.page_store.specs.Objects.{HasObjects, SpellsIn}
use Rattle.page_store.specs.Sides.{place_in, side_bytes_in}
use Rattle.std.specs.List.{AllByRecursion, AllZip, flat_map}
use Rattle.std.specs.Prelude.{List, length, ℕ, ◌+◌, ◌≡◌, ◌≤◌}
use Rattle.thor_value.specs.declared.names.Oref.{Oref}
use Rattle.thor_value.specs.declared.values.Obj.{Obj}

-- these bytes, in this slot of a page, are this object, under the name of the slot
pub record IsPaged (repo page : ℕ) (q : ℕ × List ℕ) (w : Oref × Obj) : Type 0 where
  pub name : w.0 ≡ name_of repo page q.0
  pub spelled : q.1 ≡ obj_bytes w.1
  pub fits : ObjFits w.1

-- the objects of a page, slot by slot
abbrev pub AreOfPage : ℕ → Contents → List (Oref × Obj) → Type 0
AreOfPage repo page objects = AllZip (IsPaged repo page.number) page.objects.pairs objects

-- objects that a page of this number has, each in a slot that objects are named by
pub record AreOnPage (repo number : ℕ) (objects : List (Oref × Obj)) : Type 0 where
  pub page : Contents
  pub number_is : page.number ≡ number
  pub has : HasObjects page
  pub each : AreOfPage repo page objects

-- the objects of a page by the side of it that is in use
pub record IsOnSide (format : StoreFormat) (repo : ℕ) (disk : List ℕ) (installed : ℕ × ℕ) (objects : List (Oref × Obj)) : Type 0 where
  pub page : Contents
  pub spelled : SpellsIn format (side_bytes_in format disk installed.0 installed.1) installed.0 page
  pub each : AreOfPage repo page objects

-- the objects of all installed pages, page by page
pub record ArePaged (format : StoreFormat) (repo : ℕ) (disk : List ℕ) (sides : List (ℕ × ℕ)) (objects : List (Oref × Obj)) : Type 0 where
  pub pages : List (List (Oref × Obj))
  pub each : AllZip (IsOnSide format repo disk) sides pages
  pub all : objects ≡ flat_map (λ page. page) pages

-- each installed side of a disk is a page of objects
pub record AreObjectPages (format : StoreFormat) (repo : ℕ) (sides : List (ℕ × ℕ)) (disk : List ℕ) : Type 0 where
  pub objects : List (Oref × Obj)
  pub paged : ArePaged format repo disk sides objects

-- the disk has room for a side
abbrev pub HasSide : StoreFormat → List ℕ → ℕ × ℕ → Type 0
HasSide format disk installed = place_in format installed.0 installed.1 + page_size_in format ≤ length disk

-- for each installed one
abbrev pub HasSides : StoreFormat → List (ℕ × ℕ) → List ℕ → Type 0
HasSides format sides disk = AllByRecursion (HasSide format disk) sides

-- the disk of pages has room for a side, where it is told
pub record HasRoom (format : StoreFormat) (disks : Disks) (installed : ℕ × ℕ) : Type 0 where
  pub told : WhereTold disks 2 (λ disk. HasSide format disk installed)

-- for each installed one
pub record HasRoomForAll (format : StoreFormat) (disks : Disks) (sides : List (ℕ × ℕ)) : Type 0 where
  pub told : WhereTold disks 2 (HasSides format sides)

-- The disk of pages was read, and nothing else was done.
pub record Stays (old new : Disks) : Type 0 where
  pub alone : OnDisk old new 2
  pub content : new.content 2 ≡ old.content 2
  pub crash : NoNewImage old new 2
