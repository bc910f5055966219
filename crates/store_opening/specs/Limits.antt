-- Numbers on the disks of repositories that may pass a limit: the life of a repository, the sequence of its log, and how many
-- entries its history has.
use Rattle.commit_log.specs.Recovered.{log_in, stands}
use Rattle.disk_trait.specs.AllDisks.{ReadsAs}
use Rattle.disk_trait.specs.Disks.{Disks}
use Rattle.log_codec.specs.declared.state.State.{State}
use Rattle.log_frame.specs.Log.{Opened}
use Rattle.std.specs.Prelude.{List, Some, [], ℕ, ◌<◌, ◌≡◌, ◌⊎◌, ◌∷◌}
use Rattle.store_opening.specs.Seated.{IsSeated}
use Rattle.store_opening.specs.declared.closed.Closed.{Closed}

-- disks with these bytes represent a state with a greater life
pub record HasLifeAbove (limit : ℕ) (images : ℕ → List ℕ) : Type 0 where
  pub state : State
  pub represented : stands images ≡ Some state
  pub above : limit < state.life

-- one whose history has more entries
pub record HasEntriesAbove (limit : ℕ) (images : ℕ → List ℕ) : Type 0 where
  pub state : State
  pub represented : stands images ≡ Some state
  pub above : limit < state.count

-- of their logs the one that counts has a greater sequence
pub record HasSequenceAbove (limit : ℕ) (images : ℕ → List ℕ) : Type 0 where
  pub log : Opened
  pub counts : log_in images ≡ Some log
  pub above : limit < log.sequence

abbrev pub HasCountAbove : ℕ → (ℕ → List ℕ) → Type 0
HasCountAbove limit images = HasSequenceAbove limit images ⊎ HasEntriesAbove limit images

-- the disks of one repository are so
abbrev pub AnyHas : ((ℕ → List ℕ) → Type 0) → List (ℕ → List ℕ) → Type 0
AnyHas Is [] = ⊥
AnyHas Is (image ∷ images) = Is image ⊎ AnyHas Is images

-- the disks of a repository are so, where they tell what they have
pub record PlaceHas {P : Type 0} (disks : P → Disks) (place : Closed P) (Is : (ℕ → List ℕ) → Type 0) : Type 0 where
  pub each : (part : P) (images : ℕ → List ℕ) → IsSeated disks part place → ReadsAs (disks part) images → Is images
