-- The record of a disk in memory. Calls stand with the newest first, and `bytes` is what a read gives
-- behind all of them.
use Rattle.std.specs.Prelude.{ℕ, ◌+◌, ◌%◌, Bool, true, false, nat_le, ◌==◌, if◌then◌else◌, List, [], ◌∷◌, length, MatchBool}
use Rattle.disk_trait.specs.Images.{Image, is_in}
use Rattle.disk_trait.specs.Change.{put_back}
use Rattle.disk_trait.specs.declared.record.Did.{Did}
use Rattle.disk_trait.specs.declared.record.Did.TheVariants.{Wrote, Synced, Restarted}
use Rattle.disk_trait.specs.declared.record.Call.{Call}

-- the bytes before a call
abbrev pub undone : Did → List ℕ → List ℕ
undone (Wrote at change) bytes = put_back change bytes
undone (Restarted pick change) bytes = put_back change bytes
undone _ bytes = bytes

-- What stood on the disk at its last sync: behind a sync or restart the bytes, else what it was before.
abbrev pub synced_past : Did → List ℕ → List ℕ → List ℕ
synced_past Synced bytes before = bytes
synced_past (Restarted pick change) bytes before = bytes
synced_past _ bytes before = before

-- what stood on the disk at its last sync, or at first
abbrev pub synced_of : List Call → List ℕ → List ℕ
synced_of [] bytes = bytes
synced_of (call ∷ calls) bytes = synced_past call.did bytes (synced_of calls (undone call.did bytes))

-- one more written range, or none behind a sync
abbrev pub ranges_past : Did → List (ℕ × ℕ) → List (ℕ × ℕ)
ranges_past (Wrote at change) before = (at, change.end) ∷ before
ranges_past Synced before = []
ranges_past (Restarted pick change) before = []
ranges_past _ before = before

-- the ranges that were written since the last sync
abbrev pub ranges_of : List Call → List (ℕ × ℕ)
ranges_of [] = []
ranges_of (call ∷ calls) = ranges_past call.did (ranges_of calls)

-- whether what stood there before no longer counts: behind a sync or restart
abbrev pub settles : Did → Bool
settles Synced = true
settles (Restarted pick change) = true
settles _ = false

-- a crash behind all these calls may leave this image
abbrev pub ImageNow : List Call → List ℕ → List ℕ → Type 0
ImageNow calls bytes image = Image (synced_of calls bytes) (ranges_of calls) image

-- a crash at this moment may have left this image
abbrev pub ImageAt : ℕ → List Call → List ℕ → List ℕ → Type 0
ImageAt moment [] bytes image = ImageNow [] bytes image
ImageAt moment (call ∷ calls) bytes image = MatchBool (nat_le call.time moment) (ImageNow (call ∷ calls) bytes image) (ImageAt moment calls (undone call.did bytes) image)

-- the moment at which the newest call ended
abbrev pub newest : List Call → ℕ
newest [] = 0
newest (call ∷ calls) = call.time

-- each byte goes through f, with its place; the first stands at i
abbrev pub at_places : (ℕ → ℕ → ℕ) → ℕ → List ℕ → List ℕ
at_places f i [] = []
at_places f i (byte ∷ bytes) = f i byte ∷ at_places f (i + 1) bytes

-- what a crash with this pick makes of the bytes in these ranges
abbrev pub torn : ℕ → List (ℕ × ℕ) → List ℕ → List ℕ
torn pick ranges bytes = at_places (λ i byte. if is_in ranges i then (pick + i) % 256 else byte) 0 bytes

-- The image that a pick leaves. 0: the bytes of the last sync. 1: what a read gives. From 2 on: as 1, but
-- each byte that was written since the last sync, or lies past the length at that sync, is torn.
abbrev pub picked : ℕ → List Call → List ℕ → List ℕ
picked pick calls bytes =
    if pick == 0 then synced_of calls bytes
    else (if pick == 1 then bytes else torn pick ((length (synced_of calls bytes), length bytes) ∷ ranges_of calls) bytes)
