-- Reading names, timestamps and values from the front of bytes, with the first fault that is met. Each
-- reader answers the value and the bytes behind it.
use Rattle.std.specs.Prelude.{ℕ, zero, suc, List, [], ◌∷◌, length, take, drop, Result, Ok, Err, nat_lt, if◌then◌else◌, Bool, false}
use Rattle.std.specs.Int.{Width, w16, w32, w64, byte_len, from_be_bytes, cast_signed}
use Rattle.thor_value.specs.Formats.{◌>>=◌}
use Rattle.thor_value.specs.Words.{fits_word}
use Rattle.thor_value.specs.declared.names.Oref.{Oref}
use Rattle.thor_value.specs.declared.names.Ts.{Ts}
use Rattle.thor_value.specs.declared.values.Value.{Value}
use Rattle.thor_value.specs.declared.values.Value.TheVariants.{Int, Ref, Null, Text}
use Rattle.thor_value.specs.declared.bytes.ReadFault.{ReadFault}
use Rattle.thor_value.specs.declared.bytes.ReadFault.TheVariants.{Short, BadTag}

-- a byte that passes a test; other bytes are the fault
abbrev pub byte_at : {F : Type 0} → F → (ℕ → Bool) → (ℕ → F) → List ℕ → Result (ℕ × List ℕ) F
byte_at short passes other [] = Err short
byte_at short passes other (b ∷ bytes) = if passes b then Ok (b, bytes) else Err (other b)

-- a number of a width
abbrev pub number_at : {F : Type 0} → F → Width → List ℕ → Result (ℕ × List ℕ) F
number_at short w bytes = if nat_lt (length bytes) (byte_len w) then Err short else Ok (from_be_bytes w (take (byte_len w) bytes), drop (byte_len w) bytes)

-- a byte below a number
abbrev pub below_at : ℕ → List ℕ → Result (ℕ × List ℕ) ReadFault
below_at n bytes = byte_at Short (λ b. nat_lt b n) (λ _. BadTag) bytes

-- a page below 65,536: two bytes of 0, then its number
unfoldable pub page_at : List ℕ → Result (ℕ × List ℕ) ReadFault
page_at bytes = do
  first ← below_at 1 bytes
  second ← below_at 1 first.1
  number_at Short w16 second.1

unfoldable pub oref_at : List ℕ → Result (Oref × List ℕ) ReadFault
oref_at bytes = do
  repo ← below_at 8 bytes
  page ← page_at repo.1
  slot ← below_at 12 page.1
  Ok (record { repo = repo.0; page = page.0; slot = slot.0 }, slot.1)

-- a time below 2^62: its first byte is below 64
unfoldable pub time_at : List ℕ → Result (ℕ × List ℕ) ReadFault
time_at bytes = do
  first ← below_at 64 bytes
  number_at Short w64 bytes

unfoldable pub ts_at : List ℕ → Result (Ts × List ℕ) ReadFault
ts_at bytes = do
  time ← time_at bytes
  repo ← below_at 8 time.1
  life ← number_at Short w32 repo.1
  Ok (record { time = time.0; repo = repo.0; life = life.0 }, life.1)

-- the byte that says what a value is
abbrev pub is_tag : ℕ → Bool
is_tag zero = false
is_tag (suc n) = nat_lt n 4

abbrev pub tag_at : List ℕ → Result (ℕ × List ℕ) ReadFault
tag_at bytes = byte_at Short is_tag (λ _. BadTag) bytes

-- so many bytes of a text, of which those that are there come first
abbrev pub word_bytes_at : ℕ → List ℕ → Result (List ℕ × List ℕ) ReadFault
word_bytes_at count bytes =
    if fits_word (take count bytes) then (if nat_lt (length bytes) count then Err Short else Ok (take count bytes, drop count bytes)) else Err BadTag

-- a text of at most 32 bytes
unfoldable pub word_at : List ℕ → Result (List ℕ × List ℕ) ReadFault
word_at bytes = do
  count ← below_at 33 bytes
  word_bytes_at count.0 count.1

-- what stands behind that byte
unfoldable pub behind_tag : ℕ → List ℕ → Result (Value × List ℕ) ReadFault
behind_tag zero bytes = Err BadTag
behind_tag (suc zero) bytes = do
  n ← number_at Short w64 bytes
  Ok (Int (cast_signed w64 n.0), n.1)
behind_tag (suc (suc zero)) bytes = do
  o ← oref_at bytes
  Ok (Ref o.0, o.1)
behind_tag (suc (suc (suc zero))) bytes = Ok (Null, bytes)
behind_tag (suc (suc (suc (suc n)))) bytes = do
  w ← word_at bytes
  Ok (Text w.0, w.1)

unfoldable pub value_at : List ℕ → Result (Value × List ℕ) ReadFault
value_at bytes = do
  tag ← tag_at bytes
  behind_tag tag.0 tag.1
