-- Which side of each installed page is in use (this project's): a page stands on its disk in two places,
-- and is written where it isn't in use.
use Rattle.std.specs.Prelude.{◌≡◌, ℕ, ◌<◌, ◌≤◌, ◌^◌, List, length, slice_set, slice_index_or, Option, Some, None}
use Rattle.std.specs.List.{AllByRecursion, insert}
use Rattle.std.specs.Map.{lookup}
use Rattle.std.specs.Ordering.{nat_cmp}
use Rattle.std.specs.BTreeMap.{insert_entry, is_at}
use Rattle.page_format.specs.Pages.{Rises}

-- a page's number has four bytes, and it has the sides 0 and 1
abbrev pub SideFits : ℕ × ℕ → Type 0
SideFits q = (q.0 < 2 ^ 32) × (q.1 < 2)

-- pages with their sides in use: the pages strictly rise
pub record SidesFit (pairs : List (ℕ × ℕ)) : Type 0 where
  pub rising : Rises 0 pairs
  pub each : AllByRecursion SideFits pairs

-- the side of a page that is in use, where the page is installed
abbrev pub side_in_use : List (ℕ × ℕ) → ℕ → Option ℕ
side_in_use pairs page = lookup (is_at (nat_cmp page)) pairs

-- the page stands at this place of the list
pub record IsPlace (pairs : List (ℕ × ℕ)) (page at : ℕ) : Type 0 where
  pub within : at < length pairs
  pub side : (d : ℕ × ℕ) → side_in_use pairs page ≡ Some (slice_index_or pairs at d).1
  pub put : (side : ℕ) → slice_set pairs at (page, side) ≡ insert_entry nat_cmp pairs page side

-- the page isn't in the list, and would stand at this place
pub record IsGap (pairs : List (ℕ × ℕ)) (page at : ℕ) : Type 0 where
  pub within : at ≤ length pairs
  pub side : side_in_use pairs page ≡ None
  pub put : (side : ℕ) → insert pairs at (page, side) ≡ insert_entry nat_cmp pairs page side
