-- Where a history has the entry of each item.
use Rattle.std.specs.Ordering.{nat_cmp}
use Rattle.std.specs.Prelude.{◌≡◌, ◌<◌, ◌+◌, ◌*◌, ℕ, List, [], ◌∷◌, Option, None, Some, slice_get, option_and_then}
use Rattle.thor_value.specs.FiniteMap.{Map, get}
use Rattle.thor_value.specs.declared.values.Who.{Who}
use Rattle.serial_model.specs.Outcomes.{entries_of}
use Rattle.serial_model.specs.declared.entries.Did.{Did}

-- a number for each item whose index is below 2^32
abbrev pub key : Who → ℕ
key who = who.client * 4294967296 + who.index

-- what stands at a place is the one entry that a history has of an item
pub record IsOnly (history : List Did) (who : Who) (place : ℕ) : Type 0 where
  pub did : Did
  pub stands : slice_get history place ≡ Some did
  pub is_of : did.who ≡ who
  pub only : entries_of history who ≡ did ∷ []

abbrev pub IsAt : List Did → Who → Option ℕ → Type 0
IsAt history who None = entries_of history who ≡ []
IsAt history who (Some place) = IsOnly history who place

-- the places are those at which the history has the entries
abbrev pub Finds : Map nat_cmp ℕ → List Did → Type 0
Finds places history = (who : Who) → who.index < 4294967296 → IsAt history who (get places (key who))

-- the entry of an item
abbrev pub found : Map nat_cmp ℕ → List Did → Who → Option Did
found places history who = option_and_then (slice_get history) (get places (key who))
