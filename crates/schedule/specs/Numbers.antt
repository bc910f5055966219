-- The numbers of events: decimal, without leading zeros, at most 4294967295. This project's.
use Rattle.std.specs.Prelude.{ℕ, ◌==◌, List, [], ◌∷◌, Option, None, if◌then◌else◌}
use Rattle.script_text.specs.Numbers.{digits_value}

-- the greatest number
abbrev pub max_number : ℕ
max_number = 4294967295

-- the number that digits write: there is a digit, and a 0 stands first in `0` alone
abbrev pub number_of : List ℕ → Option ℕ
number_of [] = None
number_of (digit ∷ []) = digits_value max_number (digit ∷ [])
number_of (first ∷ second ∷ rest) = if first == 48 then None else digits_value max_number (first ∷ second ∷ rest)
