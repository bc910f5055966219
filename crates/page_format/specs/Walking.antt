-- Walking over the objects of a page as they stand in its bytes.
use Rattle.std.specs.Prelude.{◌≡◌, ℕ, zero, suc, ◌+◌, ◌-◌, Bool, List, [], ◌∷◌, length, take, drop, Option, Some, None, nat_lt, ◌==◌, ◌&&◌, slice_index, if◌then◌else◌}
use Rattle.std.specs.Option.{option_map_or}
use Rattle.std.specs.Int.{w16, w32, from_be_bytes}
use Rattle.std.specs.List.{list_all}
use Rattle.std.specs.Ordering.{nat_cmp, match_ordering}
use Rattle.page_format.specs.Formats.{format_number, page_size_in}
use Rattle.page_format.specs.Pages.{ObjectsFit, entries}
use Rattle.page_format.specs.declared.format.StoreFormat.{StoreFormat}

-- the object at the front, with its slot, and the bytes behind it
abbrev pub first_at : List ℕ → Option ((ℕ × List ℕ) × List ℕ)
first_at [] = None
first_at (slot ∷ []) = None
first_at (slot ∷ high ∷ []) = None
first_at (slot ∷ high ∷ low ∷ bytes) =
    let count = from_be_bytes w16 (high ∷ low ∷ []) in
    if nat_lt (length bytes) count then None else Some ((slot, take count bytes), drop count bytes)

-- so many objects from the front on
unfoldable pub pairs_of : ℕ → List ℕ → List (ℕ × List ℕ)
pairs_of zero bytes = []
pairs_of (suc n) bytes = option_map_or (λ x. x.0 ∷ pairs_of n x.1) (first_at bytes) []

-- what is behind so many objects, whose slots rise from a least one on
unfoldable pub behind_at : ℕ → ℕ → List ℕ → Option (List ℕ)
behind_at zero low bytes = Some bytes
behind_at (suc n) low bytes = option_map_or (λ x. if nat_lt x.0.0 low then None else behind_at n (suc x.0.0) x.1) (first_at bytes) None

abbrev pub shifted : ℕ → ℕ × ℕ → ℕ × ℕ
shifted by place = (by + place.0, by + place.1)

-- where an object of this slot stands, or would stand: where it begins and where it ends
unfoldable pub place_at : ℕ → ℕ → List ℕ → ℕ × ℕ
place_at zero slot bytes = (0, 0)
place_at (suc n) slot bytes =
    option_map_or (λ x. match_ordering (nat_cmp slot x.0.0) (0, 0) (0, 3 + length x.0.1) (shifted (3 + length x.0.1) (place_at n slot x.1))) (first_at bytes) (0, 0)

-- the bytes are those of so many objects, which fit a page
pub record AreStored (count : ℕ) (bytes : List ℕ) : Type 0 where
  pub whole : entries (pairs_of count bytes) ≡ bytes
  pub all : length (pairs_of count bytes) ≡ count
  pub fit : ObjectsFit (pairs_of count bytes)

-- the number of the page, the count of its objects and the bytes behind the head
abbrev pub has_head : StoreFormat → List ℕ → Bool
has_head format bytes = (length bytes == page_size_in format) && ((slice_index bytes 0 == 84) && ((slice_index bytes 1 == 80) && (slice_index bytes 2 == format_number format)))

abbrev pub head_at : StoreFormat → List ℕ → Option ((ℕ × ℕ) × List ℕ)
head_at format bytes = if has_head format bytes then Some ((from_be_bytes w32 (take 4 (drop 4 bytes)), slice_index bytes 3), drop 8 bytes) else None

abbrev pub all_zero : List ℕ → Bool
all_zero bytes = list_all (λ b. b == 0) bytes

-- the number of the page, the count of its objects, and the bytes of these
unfoldable pub parts_at : StoreFormat → List ℕ → Option ((ℕ × ℕ) × List ℕ)
parts_at format bytes =
    option_map_or (λ h. option_map_or (λ rest. if all_zero rest then Some (h.0, take (length h.1 - length rest) h.1) else None) (behind_at h.0.1 0 h.1) None) (head_at format bytes) None
