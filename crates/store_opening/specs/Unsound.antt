-- When the disks of repositories hold no store (this project's), and which place of them is told.
use Rattle.commit_log.specs.Opening.{IsFresh}
use Rattle.commit_log.specs.Recovered.{log_in, stands}
use Rattle.disk_trait.specs.Disks.{Disks}
use Rattle.log_codec.specs.declared.state.State.{State}
use Rattle.log_frame.specs.Log.{Opened, Stands}
use Rattle.repo_opening.specs.Unsound.{IsUnsound}
use Rattle.repo_opening.specs.declared.repository.Read.{Read}
use Rattle.std.specs.List.{AllZip}
use Rattle.std.specs.Prelude.{List, None, Option, Some, [], length, slice_get, ℕ, ◌≡◌, ◌∷◌}
use Rattle.store_opening.specs.Fitting.{IsMisfit}
use Rattle.store_opening.specs.OpenedStore.{Holds, Repository, paged_of, states_of}
use Rattle.store_opening.specs.Reading.{ReadAll}
use Rattle.store_opening.specs.Seated.{AreSeated}
use Rattle.store_opening.specs.declared.closed.Closed.{Closed}

-- of the logs of a repository the one that counts stands on this disk
pub record IsLogOn (image : ℕ → List ℕ) (d : ℕ) : Type 0 where
  pub log : Opened
  pub counts : log_in image ≡ Some log
  pub on : Stands (image d) log

-- the disks of repository 0 represent a state
pub record Represents (image : ℕ → List ℕ) : Type 0 where
  pub state : State
  pub is : stands image ≡ Some state

abbrev pub BeginsOpen : List (ℕ → List ℕ) → Type 0
BeginsOpen [] = ⊥
BeginsOpen (image ∷ images) = Represents image

-- Each repository is whole by itself, and they don't fit together: this one is the first that doesn't.
pub record DontFit (images : List (ℕ → List ℕ)) (r : ℕ) : Type 0 where
  pub repositories : List Repository
  pub each : AllZip Holds images repositories
  pub misfit : IsMisfit (states_of repositories) (paged_of repositories) r

-- What is wrong at a place of a disk of this repository of a store.
pub data IsNoStore (images : List (ℕ → List ℕ)) (r d place : ℕ) : Type 0 where
  -- it is damaged by itself
  OfRepository : (image : ℕ → List ℕ) → slice_get images r ≡ Some image → IsUnsound r (length images) image d place → IsNoStore images r d place
  -- it has no open log, and repository 0 has one
  OfFresh : (image : ℕ → List ℕ) → slice_get images r ≡ Some image → IsFresh image → BeginsOpen images → d ≡ 0 → place ≡ 0 → IsNoStore images r d place
  -- each repository is whole by itself, and this one doesn't fit: its checkpoint is told
  OfFit : (image : ℕ → List ℕ) → slice_get images r ≡ Some image → IsLogOn image d → DontFit images r → place ≡ 0 → IsNoStore images r d place
  -- the same, by a name of no repository
  OfName : slice_get images r ≡ None → DontFit images r → d ≡ 0 → place ≡ 0 → IsNoStore images r d place

-- ---- what was read

-- behind these places a repository has to be open: repository 0 is
pub record BehindOpen {P : Type 0} (disks : P → Disks) (places : List (Closed P)) : Type 0 where
  pub each : (parts : List P) (images : List (ℕ → List ℕ)) → AreSeated disks parts places → ReadAll disks parts images → BeginsOpen images

-- what is wrong at a place of a disk of the repository behind these places
pub data IsNoRepository {P : Type 0} (disks : P → Disks) (places : List (Closed P)) (repos : ℕ) (image : ℕ → List ℕ) (r d place : ℕ) : Type 0 where
  Unsound : IsUnsound r repos image d place → IsNoRepository disks places repos image r d place
  NotOpen : IsFresh image → BehindOpen disks places → d ≡ 0 → place ≡ 0 → IsNoRepository disks places repos image r d place

-- the log of what was read is on this disk; where nothing was, it is disk 0
abbrev pub HasLogOn : Option Read → ℕ → Type 0
HasLogOn None d = d ≡ 0
HasLogOn (Some read) d = d ≡ read.recovered.now.log.disk

-- the place is that of the checkpoint of a repository that was read
abbrev pub IsCheckpoint : List Read → ℕ → ℕ → ℕ → Type 0
IsCheckpoint store r d place = HasLogOn (slice_get store r) d × (place ≡ 0)

-- the log of each that was read is that on its disks
abbrev pub HaveLogs : List (ℕ → List ℕ) → List Read → Type 0
HaveLogs images reads = AllZip (λ image read. IsLogOn image read.recovered.now.log.disk) images reads
