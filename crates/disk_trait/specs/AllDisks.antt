-- Runs of calls over all the disks of a repository, and what a crash of all of them leaves.
use Rattle.std.specs.Prelude.{◌≡◌, ℕ, ◌≤◌, ◌<◌, List, Some, is_some}
use Rattle.disk_trait.specs.Disks.{Disks, IsSettled}

-- What a crash of all disks at a moment may leave: one image of each, chosen freely. The images are a
-- function of the disk's number.
abbrev pub MayLeaveAll : Disks → ℕ → (ℕ → List ℕ) → Type 0
MayLeaveAll disks m images = (d : ℕ) → d < 3 → disks.images m d (images d)

-- every disk tells its content
abbrev pub TellsAll : Disks → Type 0
TellsAll disks = (d : ℕ) → d < 3 → (bytes : List ℕ) × (disks.content d ≡ Some bytes)

-- a read of each disk gives these bytes
abbrev pub ReadsAs : Disks → (ℕ → List ℕ) → Type 0
ReadsAs disks bytes = (d : ℕ) → d < 3 → disks.content d ≡ Some (bytes d)

-- of all disks a crash now leaves only what a read gives
abbrev pub AllSettled : Disks → Type 0
AllSettled disks = (d : ℕ) → d < 3 → IsSettled disks d

-- a read of each disk gives what it gave before
abbrev pub SameContent : Disks → Disks → Type 0
SameContent old new = (d : ℕ) → new.content d ≡ old.content d

-- no disk failed
abbrev pub NoFault : Disks → Disks → Type 0
NoFault old new = (d : ℕ) → new.faults d ≡ old.faults d

-- Calls on any of the disks, and on the clock, led from old to new.
pub record GoesOn (old new : Disks) : Type 0 where
  pub later : old.time ≤ new.time
  pub past : (m d : ℕ) (image : List ℕ) → m ≤ old.time → new.images m d image → old.images m d image
  pub kept : (m d : ℕ) (image : List ℕ) → m ≤ old.time → old.images m d image → new.images m d image
  pub told : (d : ℕ) → is_some (new.content d) ≡ is_some (old.content d)
  pub faults : (d : ℕ) → old.faults d ≤ new.faults d
  pub clock : old.clock ≤ new.clock

-- Calls on any of the disks led from old to new, and a crash of all of them at any moment from old to new,
-- both included, leaves images that together have P.
pub record LeavesAll (old new : Disks) (P : (ℕ → List ℕ) → Type 0) : Type 0 where
  pub goes : GoesOn old new
  pub each : (m : ℕ) (images : ℕ → List ℕ) → old.time ≤ m → m ≤ new.time → MayLeaveAll new m images → P images
