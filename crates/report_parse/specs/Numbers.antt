-- Reading numbers: decimal, without a zero in front.
use Rattle.std.specs.Prelude.{ℕ, ◌-◌, ◌==◌, nat_lt, not, Bool, true, false, if◌then◌else◌, ℤ, pos, negsuc, List, [], ◌∷◌, drop, take_while, codes, Some, None}
use Rattle.std.specs.List.{prefix_len}
use Rattle.script_text.specs.Bytes.{is_digit}
use Rattle.script_text.specs.Numbers.{digits_value}
use Rattle.report_parse.specs.Reading.{Reading, ◌>>=◌, strip, made, such_that, after_text, chosen}

-- digits with no zero in front that could be left out
abbrev pub is_canonical : List ℕ → Bool
is_canonical [] = false
is_canonical (d ∷ []) = true
is_canonical (d ∷ e ∷ ds) = not (d == 48)

-- a number that is at most `greatest`, with all the digits that stand there
unfoldable pub number_at : ℕ → Reading ℕ
number_at greatest bytes =
    if is_canonical (take_while is_digit bytes)
    then (digits_value greatest (take_while is_digit bytes) >>= λ n. Some (n, drop (prefix_len is_digit bytes) bytes))
    else None

abbrev pub u8_at : Reading ℕ
u8_at = number_at 255

abbrev pub u32_at : Reading ℕ
u32_at = number_at 4294967295

abbrev pub u64_at : Reading ℕ
u64_at = number_at 18446744073709551615

-- behind the sign of a number below 0
unfoldable pub negative_at : Reading ℤ
negative_at bytes = made (λ n. negsuc (n - 1)) (such_that (λ n. nat_lt 0 n) (number_at 9223372036854775808)) bytes

-- a number of 64 bits with a sign
unfoldable pub int_at : Reading ℤ
int_at bytes = chosen (strip (codes "-") bytes) negative_at (made pos (number_at 9223372036854775807) bytes)

unfoldable pub spaced_int_at : Reading ℤ
spaced_int_at bytes = after_text (codes " ") int_at bytes
