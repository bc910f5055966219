-- Two sides of each page on one disk (this project's; Lampson's and Sturgis's careful replacement, 1979): one
-- is in use, and the other is written.
use Rattle.std.specs.Prelude.{◌≡◌, ℕ, ◌+◌, ◌-◌, ◌*◌, ◌≤◌, List, length, take, drop, Option, Some, None}
use Rattle.page_format.specs.Formats.{page_size_in}
use Rattle.page_format.specs.Pages.{Contents, page_size}
use Rattle.page_format.specs.Sides.{side_in_use}
use Rattle.page_format.specs.declared.format.StoreFormat.{StoreFormat}
use Rattle.page_store.specs.Objects.{Spells, empty_page}

-- where a side of a page begins, in a store of a format: the two sides of a page stand beside one another, and pages
-- behind one another
abbrev pub place_in : StoreFormat → ℕ → ℕ → ℕ
place_in format page side = (2 * page + side) * page_size_in format

-- what stands there
abbrev pub side_bytes_in : StoreFormat → List ℕ → ℕ → ℕ → List ℕ
side_bytes_in format disk page side = take (page_size_in format) (drop (place_in format page side) disk)

-- the same in the format that is written
abbrev pub place_of : ℕ → ℕ → ℕ
place_of page side = (2 * page + side) * page_size

abbrev pub side_bytes : List ℕ → ℕ → ℕ → List ℕ
side_bytes disk page side = take page_size (drop (place_of page side) disk)

-- the side of a page that is written next: the one that isn't in use, and 0 for a page that was never installed
abbrev pub next_side : Option ℕ → ℕ
next_side (Some side) = 1 - side
next_side None = 0

-- What a page is, by the side of it that is in use: empty where it was never installed.
abbrev pub Shows : List ℕ → Option ℕ → ℕ → Contents → Type 0
Shows disk (Some side) number page = Spells (side_bytes disk number side) number page
Shows disk None number page = page ≡ empty_page number

-- the disk has room for each side in use
abbrev pub ReachesSides : List (ℕ × ℕ) → List ℕ → Type 0
ReachesSides sides disk = (page side : ℕ) → side_in_use sides page ≡ Some side → place_of page side + page_size ≤ length disk

-- an image of a disk has each side in use as it is on the disk
abbrev pub KeepsSides : List (ℕ × ℕ) → List ℕ → List ℕ → Type 0
KeepsSides sides disk image = (page side : ℕ) → side_in_use sides page ≡ Some side → side_bytes image page side ≡ side_bytes disk page side
