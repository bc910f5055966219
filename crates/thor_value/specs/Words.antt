-- The texts that a field can hold (this project's): they are short, and their bytes can be printed and stand between
-- quotation marks.
use Rattle.std.specs.Prelude.{◌≡◌, ℕ, ◌-◌, ◌≤◌, ◌&&◌, ◌==◌, not, nat_le, Bool, true, List, ◌++◌, length, take, replicate, slice_get, Option, Some, None, if◌then◌else◌}
use Rattle.std.specs.List.{list_all}
use Rattle.thor_value.specs.declared.words.Word.TheInside.{Inside}

-- the most bytes of a text
abbrev pub most_word_bytes : ℕ
most_word_bytes = 32

-- a byte that a text can have: it can be printed, and is no quotation mark
abbrev pub is_text_byte : ℕ → Bool
is_text_byte b = (nat_le 32 b && nat_le b 126) && not (b == 34)

-- whether bytes are those of a text
abbrev pub fits_word : List ℕ → Bool
fits_word bytes = nat_le (length bytes) most_word_bytes && list_all is_text_byte bytes

-- the text that bytes are, where they are one
abbrev pub word_from : List ℕ → Option (List ℕ)
word_from bytes = if fits_word bytes then Some bytes else None

-- a text as it lies in memory: behind its bytes stand zeros
abbrev pub padded : List ℕ → List ℕ
padded bytes = bytes ++ replicate (most_word_bytes - length bytes) 0

abbrev byte_or_zero : Option ℕ → ℕ
byte_or_zero (Some b) = b
byte_or_zero None = 0

-- the last of some bytes, or 0 where there is none
abbrev pub last_byte : List ℕ → ℕ
last_byte bytes = byte_or_zero (slice_get bytes (length bytes - 1))

-- the bytes of a text as it lies in memory
abbrev pub bytes_in : Inside → List ℕ
bytes_in w = take w.len w.room

-- what holds of each text in memory
pub record IsPadded (w : Inside) : Type 0 where
  pub room : w.room ≡ padded (bytes_in w)
  pub len : w.len ≡ length (bytes_in w)
  pub whole : length w.room ≡ most_word_bytes
  pub few : w.len ≤ most_word_bytes
  pub word : fits_word (bytes_in w) ≡ true
