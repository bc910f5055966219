-- Names of objects in their order.
use Rattle.std.specs.List.{list_any}
use Rattle.std.specs.List.Sorted.{IsStrictlySortedBy}
use Rattle.std.specs.Ordering.{is_lt}
use Rattle.std.specs.Prelude.{Bool, List, None, Option, Some, [], cond, true, ◌&&◌, ◌∷◌, ◌≡◌}
use Rattle.thor_value.specs.Names.{oref_cmp, same_oref}
use Rattle.thor_value.specs.declared.names.Oref.{Oref}

-- whether x is one of the names
abbrev pub is_among : List Oref → Oref → Bool
is_among names x = list_any (same_oref x) names

-- each name is before those behind it
abbrev pub Rises : List Oref → Type 0
Rises names = IsStrictlySortedBy oref_cmp names

-- What a request says of objects: its names rise, and it read what it wrote.
pub record IsInOrder (read written : List Oref) : Type 0 where
  pub reads_rise : Rises read
  pub writes_rise : Rises written
  pub within : (x : Oref) → is_among written x ≡ true → is_among read x ≡ true

-- whether x comes behind the last name, where there is one
abbrev pub is_behind : Option Oref → Oref → Bool
is_behind None x = true
is_behind (Some last) x = is_lt (oref_cmp last x)

-- whether the names rise from the last one on
abbrev pub rises_after : Option Oref → List Oref → Bool
rises_after last [] = true
rises_after last (x ∷ xs) = is_behind last x && rises_after (Some x) xs

-- whether each of some names is one of the names
abbrev pub all_among : List Oref → List Oref → Bool
all_among names [] = true
all_among names (x ∷ xs) = is_among names x && all_among names xs

-- the lesser of two names, where there are two
abbrev pub least_of : Option Oref → Option Oref → Option Oref
least_of (Some x) (Some y) = cond (is_lt (oref_cmp x y)) (Some x) (Some y)
least_of (Some x) None = Some x
least_of None second = second
