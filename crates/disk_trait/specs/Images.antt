-- The disk model: what a crash may leave of a disk.
use Rattle.std.specs.Prelude.{◌≡◌, ℕ, ◌<◌, ◌≤◌, max, Bool, false, ◌&&◌, ◌||◌, nat_le, nat_lt, List, [], ◌∷◌, length, slice_index}

-- whether a place lies in one of these ranges, each from its first place up to its end
abbrev pub is_in : List (ℕ × ℕ) → ℕ → Bool
is_in [] i = false
is_in (range ∷ ranges) i = (nat_le range.0 i && nat_lt i range.1) || is_in ranges i

-- the greatest length that a disk of this length had while these ranges were written
abbrev pub greatest : ℕ → List (ℕ × ℕ) → ℕ
greatest least [] = least
greatest least (range ∷ ranges) = max (greatest least ranges) range.1

-- Crash images. `synced` stood on the disk at its last sync, and these ranges were written since. A crash
-- may leave any bytes in them and past the old end, at any length from the least to the greatest since the
-- sync; each other byte stays. This project's; ordinary file systems promise about as much.
pub record Image (synced : List ℕ) (ranges : List (ℕ × ℕ)) (image : List ℕ) : Type 0 where
  pub no_shorter : length synced ≤ length image
  pub no_longer : length image ≤ greatest (length synced) ranges
  pub outside : (i : ℕ) → i < length synced → is_in ranges i ≡ false → slice_index image i ≡ slice_index synced i
