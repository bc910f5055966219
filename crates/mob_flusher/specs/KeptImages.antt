-- Images of pages that are kept.
use Rattle.std.specs.Prelude.{◌≡◌, ℕ, ◌%◌, ◌⊎◌, List, Option, Some, None, slice_get, slice_set, option_and_then, nat_eq, if◌then◌else◌}
use Rattle.std.specs.Option.{unwrap_or}
use Rattle.thor_value.specs.declared.names.Oref.{Oref}
use Rattle.thor_value.specs.declared.values.Obj.{Obj}
use Rattle.page_format.specs.Pages.{Contents}
use Rattle.page_store.specs.Objects.{HasObjects}
use Rattle.page_store.specs.Store.{Store, held_page}
use Rattle.mob_buffer.specs.Buffer.{AreOf, Objects}
use Rattle.mob_flusher.specs.Images.{IsImage, overlaid}
use Rattle.mob_flusher.specs.Map.{Kept}

-- places, each with an image or without
abbrev pub Places : Type 0
Places = List (Option Contents)

-- the image at a place
abbrev pub at_place : Places → ℕ → Option Contents
at_place places place = unwrap_or (slice_get places place) None

-- the place of a page's image
abbrev pub place_of : ℕ → ℕ
place_of page = page % 64

-- the image, where it is of this page
abbrev pub of_page : ℕ → Contents → Option Contents
of_page page image = if nat_eq image.number page then Some image else None

-- the image of a page, where it is kept
abbrev pub image_in : Places → ℕ → Option Contents
image_in places page = option_and_then (of_page page) (at_place places (place_of page))

-- an image or none at a place, which has this if it is there
abbrev pub placed : Option Contents → Places → ℕ → Option (Option Contents) → Places
placed image places place None = places
placed image places place (Some was) = slice_set places place image

-- each image is a page of objects
abbrev pub HaveObjects : Places → Type 0
HaveObjects places = (place : ℕ) (image : Contents) → at_place places place ≡ Some image → HasObjects image

-- what is kept was kept before, and is of another page than this
abbrev pub AreKeptBut : ℕ → Places → Places → Type 0
AreKeptBut page now before = (p : ℕ) (image : Contents) → image_in now p ≡ Some image → (image_in before p ≡ Some image) × (p ≡ page → ⊥)

-- what is kept was kept before
abbrev pub AreKept : Places → Places → Type 0
AreKept now before = (page : ℕ) (image : Contents) → image_in now page ≡ Some image → image_in before page ≡ Some image

-- the image of a page is the one before with an object in its slot, where that is one of its own
abbrev pub IsPut : Places → Oref → Obj → ℕ → Contents → Type 0
IsPut before x object page now = (image_in before page ≡ Some now) × (page ≡ x.page → ⊥) ⊎ ((image : Contents) × (image_in before page ≡ Some image) × (page ≡ x.page) × (now ≡ overlaid image x.slot (Some object)))

-- the image of a page was kept before, or is this one, which is put there
abbrev pub IsKeptOrThis : Places → Contents → ℕ → Contents → Type 0
IsKeptOrThis before image page now = (image_in before page ≡ Some now) ⊎ ((page ≡ image.number) × (now ≡ image))

-- the image of another page is one that was there, and that of this name's page is this one with the object in its slot
abbrev pub IsPutBack : Places → Contents → Oref → Obj → ℕ → Contents → Type 0
IsPutBack before image x object page now = (image_in before page ≡ Some now) ⊎ ((page ≡ x.page) × (now ≡ overlaid image x.slot (Some object)))

-- the image of a page, where it is kept, is this page with the objects in their slots
abbrev pub AreImages : Places → Objects → ℕ → Contents → Type 0
AreImages places objects repo base = (image : Contents) → image_in places base.number ≡ Some image → IsImage objects repo base image

-- an image of a page with the buffer's objects in their slots, all of them being of one repository
pub record IsImageOver (objects : Objects) (base image : Contents) : Type 0 where
  pub repo : ℕ
  pub one_repo : AreOf repo objects
  pub is_image : IsImage objects repo base image

-- each image that is kept of a page that is held is what it has with the buffer's objects in their slots
abbrev pub ShowHeld : Places → Kept → Type 0
ShowHeld places kept = (base image : Contents) → held_page kept.pages base.number ≡ Some base → image_in places base.number ≡ Some image → IsImageOver kept.mob.objects base image

-- behind a call that held a page this one has what it had, where the one that was held isn't it or was held before
abbrev pub IsHeldStill : Store → ℕ → ℕ → Contents → Type 0
IsHeldStill before page p found = (held_page before p ≡ Some found) ⊎ ((p ≡ page) × (held_page before page ≡ None))

-- the image of a page was kept before, or is one of this page with the buffer's objects in their slots
abbrev pub IsKeptOr : Places → Objects → Contents → ℕ → Contents → Type 0
IsKeptOr before objects base page image = (image_in before page ≡ Some image) ⊎ ((page ≡ base.number) × IsImageOver objects base image)
