-- What a store of pages keeps, and when that agrees with its disk.
use Rattle.std.specs.Prelude.{◌≡◌, ℕ, ◌+◌, ◌<◌, ◌≤◌, List, length, Option, Some, None, is_some, nat_eq, if◌then◌else◌}
use Rattle.std.specs.Option.{unwrap_or}
use Rattle.std.specs.Map.{lookup}
use Rattle.std.specs.Ordering.{nat_cmp}
use Rattle.std.specs.BTreeMap.{insert_entry}
use Rattle.lru.specs.LruCache.{lru_cache, put_entries}
use Rattle.page_format.specs.Pages.{Contents, page_size}
use Rattle.page_format.specs.Sides.{side_in_use}
use Rattle.page_store.specs.Objects.{HasObjects, Spells}
use Rattle.disk_trait.specs.Disks.{Disks, WhereTold}
use Rattle.page_store.specs.Sides.{ReachesSides, Shows, place_of, side_bytes}

-- the most pages that are held
abbrev pub most_held : ℕ
most_held = 4096

-- what a store of pages keeps in memory
pub record Store : Type 0 where
  -- the installed pages, rising, each with the side in use
  pub sides : List (ℕ × ℕ)
  -- the pages held, the last used one first; a place may be kept for a page that isn't there yet
  pub held : List (ℕ × Option Contents)
  -- what the last install wrote, and into which side, until it is put in use
  pub staged : Option (Contents × ℕ)

-- a page among those held
abbrev pub page_in : List (ℕ × Option Contents) → ℕ → Option Contents
page_in held page = unwrap_or (lookup (nat_eq page) held) None

-- a page that a store holds
abbrev pub held_page : Store → ℕ → Option Contents
held_page store page = page_in store.held page

-- a page is held and used last; where there was no place the one used longest ago goes
abbrev pub with_held : List (ℕ × Option Contents) → ℕ → Option Contents → List (ℕ × Option Contents)
with_held held page contents = put_entries nat_eq (lru_cache held most_held) page contents

-- the same for a page that has a place, and else nothing
abbrev pub refreshed : List (ℕ × Option Contents) → ℕ → Option Contents → List (ℕ × Option Contents)
refreshed held page contents = if is_some (lookup (nat_eq page) held) then with_held held page contents else held

-- how many calls on the disk a read of a page makes
abbrev pub reads_of : Store → ℕ → ℕ
reads_of store page = if is_some (held_page store page) then 0 else (if is_some (side_in_use store.sides page) then 1 else 0)

-- What is kept agrees with what the disk reads: the sides in use lie on it, each page held is what its side in
-- use shows, and what was staged stands on the side that it was written to.
pub record Agrees (store : Store) (disk : List ℕ) : Type 0 where
  pub reaches : ReachesSides store.sides disk
  pub held : (page : ℕ) (contents : Contents) → held_page store page ≡ Some contents → Shows disk (side_in_use store.sides page) page contents
  pub staged : (page : Contents) (side : ℕ) → store.staged ≡ Some (page, side) → Spells (side_bytes disk page.number side) page.number page

-- the pages in memory hold objects alone, each under its number
pub record AreHeld (store : Store) : Type 0 where
  pub held : (page : ℕ) (contents : Contents) → held_page store page ≡ Some contents → HasObjects contents × (contents.number ≡ page)
  pub staged : (page : Contents) (side : ℕ) → store.staged ≡ Some (page, side) → HasObjects page

-- the same for a page that has no place yet, and else nothing
abbrev pub with_place : List (ℕ × Option Contents) → ℕ → List (ℕ × Option Contents)
with_place held page = if is_some (lookup (nat_eq page) held) then held else with_held held page None

-- another side of a page is in use: the page isn't held any more, and nothing is staged
abbrev pub with_side : Store → ℕ → ℕ → Store
with_side store page side = record { sides = insert_entry nat_cmp store.sides page side; held = refreshed store.held page None; staged = None }

-- what holds of every store of pages: the room is that of its lists
pub record Keeps (store : Store) (cap room : ℕ) : Type 0 where
  pub cap_is : cap ≡ most_held
  pub pages : AreHeld store
  pub room_is : (page : Contents) (side : ℕ) → store.staged ≡ Some (page, side) → length store.sides < room
  pub side : (page : Contents) (side : ℕ) → store.staged ≡ Some (page, side) → side < 2

-- the last install wrote this page, to this side, and it isn't in use yet
abbrev pub IsStaged : Store → ℕ → ℕ → Type 0
IsStaged store page side = (contents : Contents) × (contents.number ≡ page) × (store.staged ≡ Some (contents, side))

-- the bytes of an installed page's side in use, at this place, are no page of objects with its number
pub record IsDamage (disks : Disks) (sides : List (ℕ × ℕ)) (page place : ℕ) : Type 0 where
  pub side : ℕ
  pub in_use : side_in_use sides page ≡ Some side
  pub place_is : place ≡ place_of page side
  pub none : WhereTold disks 2 (λ disk. (found : Contents) → Spells (side_bytes disk page side) page found → ⊥)

-- the disk of pages, where it is told, reaches the end of a page's side
pub record ReachesSide (disks : Disks) (page : ℕ) (in_use : Option ℕ) : Type 0 where
  pub within : (side : ℕ) → in_use ≡ Some side → WhereTold disks 2 (λ disk. place_of page side + page_size ≤ length disk)
