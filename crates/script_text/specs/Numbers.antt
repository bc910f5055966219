-- The value of decimal digits, up to a greatest number. This project's.
use Rattle.std.specs.Prelude.{ℕ, ◌+◌, ◌*◌, ◌-◌, ◌&&◌, nat_le, List, Option, Some, None, fold, if◌then◌else◌}
use Rattle.std.specs.Char.{is_ascii_digit}

-- a number with one more digit behind its own, where that is a digit and the number is at most the greatest
abbrev pub with_digit : ℕ → Option ℕ → ℕ → Option ℕ
with_digit greatest None digit = None
with_digit greatest (Some value) digit =
    if is_ascii_digit digit && nat_le (value * 10 + (digit - 48)) greatest then Some (value * 10 + (digit - 48)) else None

-- the number that digits write, first to last, where it is at most the greatest; no digits write 0
abbrev pub digits_value : ℕ → List ℕ → Option ℕ
digits_value greatest digits = fold (with_digit greatest) (Some 0) digits
