-- What the bytes of a log disk stand for.
use Rattle.std.specs.Prelude.{◌≡◌, ◌≢◌, ◌⊎◌, ℕ, zero, suc, ◌+◌, ◌<◌, nat_le, ◌==◌, if◌then◌else◌, Bool, List, [], ◌∷◌, ◌++◌, length, take, drop, sum_by, slice_index, Option, Some, None, Result, Ok, Err}
use Rattle.std.specs.Int.{w32, w64, from_be_bytes, to_be_bytes}

-- what an open log holds: its sequence, its head, and the bodies of its records, the first one first
pub record Opened : Type 0 where
  pub sequence : ℕ
  pub head : List ℕ
  pub bodies : List (List ℕ)

-- the number in the first four bytes, the highest first
unfoldable pub u32_in : List ℕ → ℕ
u32_in bytes = from_be_bytes w32 (take 4 bytes)

-- the number in the first eight
unfoldable pub u64_in : List ℕ → ℕ
u64_in bytes = from_be_bytes w64 (take 8 bytes)

-- Whether a length, so many bytes and a gate behind them stand in these bytes.
abbrev pub is_whole : List ℕ → Bool
is_whole bytes = nat_le (4 + u32_in bytes + 1) (length bytes)

-- the bytes behind a length
abbrev pub body_in : List ℕ → List ℕ
body_in bytes = take (u32_in bytes) (drop 4 bytes)

-- one body before those that are read behind it
abbrev pub with_first : List ℕ → Result (List (List ℕ)) ℕ → Result (List (List ℕ)) ℕ
with_first body (Ok bodies) = Ok (body ∷ bodies)
with_first body (Err place) = Err place

-- The bodies of the records from a gate on, which stands behind `skip` bytes more; `place` is that of the
-- first of these bytes on the disk. They end at the first gate that isn't open. An open gate without a
-- whole record and a gate behind it is damage at its place. This project's.
abbrev pub bodies_from : ℕ → ℕ → List ℕ → Result (List (List ℕ)) ℕ
bodies_from skip place [] = Ok []
bodies_from (suc skip) place (byte ∷ rest) = bodies_from skip (place + 1) rest
bodies_from zero place (gate ∷ rest) =
    if gate == 1 then (if is_whole rest then with_first (body_in rest) (bodies_from (4 + u32_in rest) (place + 1) rest) else Err place)
    else Ok []

-- a log with these bodies, or the damage behind it
abbrev pub opened_by : ℕ → List ℕ → Result (List (List ℕ)) ℕ → Result Opened ℕ
opened_by sequence head (Ok bodies) = Ok (record { sequence = sequence; head = head; bodies = bodies })
opened_by sequence head (Err place) = Err place

-- what stands behind an open header's gate: a sequence, a head with its length, and the records
abbrev pub read_open : List ℕ → Result Opened ℕ
read_open bytes =
    if is_whole (drop 8 bytes) then opened_by (u64_in bytes) (body_in (drop 8 bytes)) (bodies_from (12 + u32_in (drop 8 bytes)) 1 bytes)
    else Err 0

-- What the bytes of a log disk stand for: nothing where the header isn't open, and else a log, or damage
-- at a place.
abbrev pub read_log : List ℕ → Option (Result Opened ℕ)
read_log [] = None
read_log (gate ∷ []) = None
read_log (gate ∷ byte ∷ rest) = if gate == 1 then Some (read_open (byte ∷ rest)) else None

-- These bytes are a whole log: its last gate is open or closed, with nothing between.
abbrev pub Stands : List ℕ → Opened → Type 0
Stands bytes opened = read_log bytes ≡ Some (Ok opened)

-- with one record more
abbrev pub with_body : Opened → List ℕ → Opened
with_body opened body = record opened { bodies = opened.bodies ++ body ∷ [] }

-- the log from before, or with one record more
abbrev pub IsBeforeOrAfter : Opened → List ℕ → List ℕ → Type 0
IsBeforeOrAfter opened body image = Stands image opened ⊎ Stands image (with_body opened body)

-- the place of the gate behind the last record
abbrev pub end_of : Opened → ℕ
end_of opened = 13 + length opened.head + sum_by (λ body. 5 + length body) opened.bodies

-- a log without records
abbrev pub new_log : ℕ → List ℕ → Opened
new_log sequence head = record { sequence = sequence; head = head; bodies = [] }

-- While a new log is written over what stood on a disk: the old bytes, no open header, or the new log.
abbrev pub IsOldOrNew : List ℕ → Opened → List ℕ → Type 0
IsOldOrNew old new image = (image ≡ old) ⊎ ((read_log image ≡ None) ⊎ Stands image new)

-- what a program keeps of an open log: its disk, its sequence, and the place of the gate behind the last record
pub record Place : Type 0 where
  pub disk : ℕ
  pub sequence : ℕ
  pub end : ℕ

-- that agrees with what the disk reads
pub record Agrees (place : Place) (bytes : List ℕ) : Type 0 where
  pub opened : Opened
  pub stands : Stands bytes opened
  pub sequence : place.sequence ≡ opened.sequence
  pub end : place.end ≡ end_of opened

-- a disk with these bytes opens as nothing, or as a log that agrees with them
abbrev pub IsFound : ℕ → List ℕ → Option (Place × List ℕ × List (List ℕ)) → Type 0
IsFound disk bytes None = read_log bytes ≡ None
IsFound disk bytes (Some found) =
    Stands bytes (record { sequence = found.0.sequence; head = found.1; bodies = found.2 })
    × (found.0.disk ≡ disk) × (found.0.end ≡ end_of (record { sequence = found.0.sequence; head = found.1; bodies = found.2 }))

-- a record behind its gate, and the closed gate behind it
abbrev pub closed_record : List ℕ → List ℕ
closed_record body = to_be_bytes w32 (length body) ++ (body ++ 0 ∷ [])

-- what stands behind the header's gate of a new log: its sequence, its head, and a closed gate
abbrev pub header_bytes : ℕ → List ℕ → List ℕ
header_bytes sequence head = to_be_bytes w64 sequence ++ closed_record head

-- the first byte is there and isn't an open gate
abbrev pub IsShut : List ℕ → Type 0
IsShut bytes = (0 < length bytes) × (slice_index bytes 0 ≢ 1)

-- the header is open where there is one
abbrev pub MayBeOpen : List ℕ → Type 0
MayBeOpen bytes = 1 < length bytes → slice_index bytes 0 ≡ 1

-- the old bytes, or no open header
abbrev pub IsOldOrShut : List ℕ → List ℕ → Type 0
IsOldOrShut old image = (image ≡ old) ⊎ (read_log image ≡ None)

-- no open header, or the new log
abbrev pub IsShutOrNew : Opened → List ℕ → Type 0
IsShutOrNew new image = (read_log image ≡ None) ⊎ Stands image new
