-- Whether the sides in use on a disk of pages are pages of objects.
use Rattle.disk_trait.specs.Disks.{Disks}
use Rattle.page_format.specs.Pages.{Contents}
use Rattle.page_format.specs.Sides.{side_in_use}
use Rattle.page_store.specs.Objects.{Spells}
use Rattle.page_store.specs.Sides.{side_bytes}
use Rattle.repo_durable.specs.Kept.{disks_of, held_of, is_torn}
use Rattle.repo_durable.specs.declared.stable.Stable.{Stable}
use Rattle.std.specs.Prelude.{Bool, List, Option, Some, false, is_some, true, ℕ, ◌≡◌, ◌⊎◌}

-- on this side of a page stands a page of objects with its number
abbrev pub IsPageOn : List ℕ → ℕ → ℕ → Type 0
IsPageOn disk page side = (found : Contents) × Spells (side_bytes disk page side) page found

-- so it is on each side in use
abbrev pub ArePages : List (ℕ × ℕ) → List ℕ → Type 0
ArePages sides disk = (page side : ℕ) → side_in_use sides page ≡ Some side → IsPageOn disk page side

-- each of these sides in use is one of the others, or such a page
abbrev pub AreOrPages : List (ℕ × ℕ) → List (ℕ × ℕ) → List ℕ → Type 0
AreOrPages others sides disk = (page side : ℕ) → side_in_use sides page ≡ Some side → (side_in_use others page ≡ Some side) ⊎ IsPageOn disk page side

-- The bytes of each disk, of two logs and the pages, are told, and each side in use is a page of objects, but where the
-- repository is torn.
pub record TellsPages (is_torn : Bool) (sides : List (ℕ × ℕ)) (first second pages : Option (List ℕ)) : Type 0 where
  pub first_told : is_some first ≡ true
  pub second_told : is_some second ≡ true
  pub pages_told : is_some pages ≡ true
  pub are : is_torn ≡ false → (disk : List ℕ) → pages ≡ Some disk → ArePages sides disk

-- the same of disks
abbrev pub PagesTold : Bool → List (ℕ × ℕ) → Disks → Type 0
PagesTold is_torn sides disks = TellsPages is_torn sides (disks.content 0) (disks.content 1) (disks.content 2)

-- and of a repository's own
abbrev pub HasPages : {P : Type 0} → (P → Disks) → Stable P → Type 0
HasPages disks store = PagesTold (is_torn store) (held_of store).objects.pages.sides (disks_of disks store)
