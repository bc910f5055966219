-- What contracts see of a repository's parts: three disks, numbered 0 to 2, and a clock.
use Rattle.std.specs.Prelude.{◌≡◌, ◌≢◌, ℕ, ◌+◌, ◌-◌, ◌≤◌, ◌<◌, ◌^◌, List, ◌++◌, length, take, drop, replicate, slice_index, max, ◌⊎◌, Option, Some, is_some}

-- What is true of the parts at one moment. Moments are counted by one clock of calls: each call on a
-- disk begins at a moment and ends at the next. This project's.
pub record Disks : Type 1 where
  -- what a read of each disk gives, where the parts tell it
  pub content : ℕ → Option (List ℕ)
  -- this moment
  pub time : ℕ
  -- `images m d bytes`: a crash at moment m, no later than this, could leave these bytes on disk d
  pub images : ℕ → ℕ → List ℕ → Type 0
  -- how often each disk has failed; a count at 2 ^ 64 - 1 stands still
  pub faults : ℕ → ℕ
  -- the greatest number that the clock gave, 0 before the first
  pub clock : ℕ

-- what the parts tell of a disk, if they tell it, has P
abbrev pub WhereTold : Disks → ℕ → (List ℕ → Type 0) → Type 0
WhereTold disks d P = (bytes : List ℕ) → disks.content d ≡ Some bytes → P bytes

-- a crash now may leave these bytes on the disk
abbrev pub MayLeave : Disks → ℕ → List ℕ → Type 0
MayLeave disks d bytes = disks.images disks.time d bytes

-- Where the content is told, a crash now leaves of the disk only what a read gives.
abbrev pub IsSettled : Disks → ℕ → Type 0
IsSettled disks d = WhereTold disks d (λ bytes. (image : List ℕ) → MayLeave disks d image → image ≡ bytes)

-- A count of faults rose; of a count that stands still nothing is said.
abbrev pub Rose : ℕ → ℕ → Type 0
Rose before after = after < 2 ^ 64 - 1 → before < after

-- Calls on one disk alone led from old to new: the past stays, and the other disks and the clock are
-- as they were at each moment.
pub record OnDisk (old new : Disks) (disk : ℕ) : Type 0 where
  pub later : old.time ≤ new.time
  pub past : (m d : ℕ) (image : List ℕ) → m ≤ old.time → new.images m d image → old.images m d image
  pub kept : (m d : ℕ) (image : List ℕ) → m ≤ old.time → old.images m d image → new.images m d image
  pub told : is_some (new.content disk) ≡ is_some (old.content disk)
  pub others : (d : ℕ) → d ≢ disk → new.content d ≡ old.content d
  pub others_images : (m d : ℕ) (image : List ℕ) → d ≢ disk → old.time ≤ m → m ≤ new.time → new.images m d image → MayLeave old d image
  pub others_kept : (m d : ℕ) (image : List ℕ) → d ≢ disk → old.time ≤ m → m ≤ new.time → MayLeave old d image → new.images m d image
  pub others_faults : (d : ℕ) → d ≢ disk → new.faults d ≡ old.faults d
  pub faults_stay : old.faults disk ≤ new.faults disk
  pub clock : new.clock ≡ old.clock

-- Calls on one disk alone led from old to new, and a crash of the disk at any moment from old to new,
-- both included, leaves what has P.
pub record Leaves (old new : Disks) (disk : ℕ) (P : List ℕ → Type 0) : Type 0 where
  pub alone : OnDisk old new disk
  pub each : (m : ℕ) (image : List ℕ) → old.time ≤ m → m ≤ new.time → new.images m disk image → P image

-- Only the clock was asked.
pub record SameDisks (old new : Disks) : Type 0 where
  pub content : (d : ℕ) → new.content d ≡ old.content d
  pub time : new.time ≡ old.time
  pub images : (m d : ℕ) (image : List ℕ) → new.images m d image → old.images m d image
  pub kept : (m d : ℕ) (image : List ℕ) → old.images m d image → new.images m d image
  pub faults : (d : ℕ) → new.faults d ≡ old.faults d

-- What a write of these bytes at this place makes of a disk. A gap before the place is filled with zeros.
abbrev pub written : List ℕ → ℕ → List ℕ → List ℕ
written old at bytes = take at (old ++ replicate (at - length old) 0) ++ bytes ++ drop (at + length bytes) old

-- What a crash makes of a disk while a write of n bytes at this place isn't synced: any bytes in the
-- range and past the old end, at any length from the old one to that of the whole write. Each byte that
-- was there before and lies outside the range stays.
pub record Torn (at n : ℕ) (old new : List ℕ) : Type 0 where
  pub no_shorter : length old ≤ length new
  pub no_longer : length new ≤ max (length old) (at + n)
  pub outside : (i : ℕ) → i < length old → (i < at) ⊎ (at + n ≤ i) → slice_index new i ≡ slice_index old i

-- a crash now leaves nothing of the disk that it couldn't have left before
abbrev pub NoNewImage : Disks → Disks → ℕ → Type 0
NoNewImage old new d = (image : List ℕ) → MayLeave new d image → MayLeave old d image

-- what a crash now may leave of the disk is what it might have left before, with this write torn
abbrev pub TornAlone : Disks → Disks → ℕ → ℕ → ℕ → Type 0
TornAlone old new d at n = (image : List ℕ) → MayLeave new d image → (before : List ℕ) × MayLeave old d before × Torn at n before image
