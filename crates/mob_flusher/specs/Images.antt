-- A page with the buffer's objects in their slots.
use Rattle.std.specs.Prelude.{◌≡◌, ℕ, ◌<◌, ◌≤◌, List, Option, Some, None}
use Rattle.std.specs.Option.{option_map_or}
use Rattle.thor_value.specs.FiniteMap.{get, insert}
use Rattle.thor_value.specs.declared.names.Oref.{Oref}
use Rattle.thor_value.specs.declared.values.Obj.{Obj}
use Rattle.object_codec.specs.Spelling.{obj_bytes}
use Rattle.page_format.specs.Pages.{Contents}
use Rattle.page_format.specs.Sides.{side_in_use}
use Rattle.page_store.specs.Sides.{Shows}
use Rattle.page_store.specs.Store.{held_page}
use Rattle.mob_buffer.specs.Buffer.{AreOf, Objects, object_of}
use Rattle.mob_flusher.specs.Map.{Kept}

abbrev pub name_of : ℕ → ℕ → ℕ → Oref
name_of repo page slot = record { repo = repo; page = page; slot = slot }

-- what a slot has with the buffer's object, where there is one, in the place of the page's
abbrev pub over : Objects → ℕ → Contents → ℕ → Option (List ℕ)
over objects repo base slot = option_map_or (λ object. Some (obj_bytes object)) (object_of objects (name_of repo base.number slot)) (get base.objects slot)

-- a page with an object in a slot, where there is one
abbrev pub overlaid : Contents → ℕ → Option Obj → Contents
overlaid page slot (Some object) = record page { objects = insert page.objects slot (obj_bytes object) }
overlaid page slot None = page

-- the buffer's objects were put into the slots below this one
pub record IsImageTo (objects : Objects) (repo : ℕ) (base image : Contents) (end : ℕ) : Type 0 where
  pub number : image.number ≡ base.number
  pub below : (slot : ℕ) → slot < end → get image.objects slot ≡ over objects repo base slot
  pub rest : (slot : ℕ) → end ≤ slot → get image.objects slot ≡ get base.objects slot

-- a page with all objects that the buffer has of it
abbrev pub IsImage : Objects → ℕ → Contents → Contents → Type 0
IsImage objects repo base image = IsImageTo objects repo base image 12

-- a flush wrote the image of this page into this side, and it isn't in use yet; the buffer's objects are of
-- this repository
pub record IsFlushed (kept : Kept) (repo page side : ℕ) : Type 0 where
  pub image : Contents
  pub base : Contents
  pub number : base.number ≡ page
  pub staged : kept.pages.staged ≡ Some (image, side)
  pub held : held_page kept.pages page ≡ Some base
  pub one_repo : AreOf repo kept.mob.objects
  pub is_image : IsImage kept.mob.objects repo base image

-- what a page shows with the buffer's objects in their slots, all of them being of one repository
pub record ShowsImage (disk : List ℕ) (kept : Kept) (page : ℕ) (image : Contents) : Type 0 where
  pub base : Contents
  pub shows : Shows disk (side_in_use kept.pages.sides page) page base
  pub repo : ℕ
  pub one_repo : AreOf repo kept.mob.objects
  pub is_image : IsImage kept.mob.objects repo base image

-- what a held page has with the buffer's objects in their slots, all of them being of one repository
pub record IsHeldImage (kept : Kept) (page : ℕ) (image : Contents) : Type 0 where
  pub base : Contents
  pub number : base.number ≡ page
  pub held : held_page kept.pages page ≡ Some base
  pub repo : ℕ
  pub one_repo : AreOf repo kept.mob.objects
  pub is_image : IsImage kept.mob.objects repo base image
