-- An open log and the state that it holds.
use Rattle.std.specs.Prelude.{List, None, Ok, Option, Result, Some, ◌+◌, ◌-◌, ◌<◌, ◌≡◌, ◌⊎◌, ℕ}
use Rattle.disk_trait.specs.AllDisks.{AllSettled}
use Rattle.disk_trait.specs.Disks.{Disks, WhereTold}
use Rattle.log_frame.specs.Log.{Agrees, Opened, Place, Stands, read_log}
use Rattle.log_codec.specs.declared.body.Body.{Body}
use Rattle.log_codec.specs.declared.state.State.{State}
use Rattle.commit_log.specs.Recovered.{after, stands, state_in}

-- the other log disk
abbrev pub beside : ℕ → ℕ
beside disk = 1 - disk

-- Beside a log of this sequence on this disk the other one doesn't count: there is none, or it is whole
-- and of a lesser sequence; on disk 1 it may be of the same.
abbrev pub Under : ℕ → ℕ → Option (Result Opened ℕ) → Type 0
Under disk sequence found = (found ≡ None) ⊎ ((o : Opened) × (found ≡ Some (Ok o)) × (o.sequence < sequence + beside disk))

-- A log counts beside the other disk's bytes, and stands for the state.
pub record Holding (disk : ℕ) (opened : Opened) (s : State) (other : List ℕ) : Type 0 where
  pub under : Under disk opened.sequence (read_log other)
  pub state : state_in opened ≡ Some s

-- All disks are settled, and where the log disks tell, this log counts and holds the whole state.
pub record Holds (disks : Disks) (place : Place) (s : State) : Type 0 where
  pub within : place.disk < 2
  pub settled : AllSettled disks
  pub agrees : WhereTold disks place.disk (Agrees place)
  pub told : (log other : List ℕ) → disks.content place.disk ≡ Some log → disks.content (beside place.disk) ≡ Some other → (opened : Opened) → Stands log opened → Holding place.disk opened s other

-- the images of the disks say the state, whole
abbrev pub Says : State → (ℕ → List ℕ) → Type 0
Says s images = stands images ≡ Some s

-- they say the state, or that behind one record more
abbrev pub SaysOneOf : State → Body → (ℕ → List ℕ) → Type 0
SaysOneOf s body images = Says s images ⊎ Says (after s body) images

-- they say the one state or the other
abbrev pub SaysEither : State → State → (ℕ → List ℕ) → Type 0
SaysEither s t images = Says s images ⊎ Says t images

-- no log is open yet, or they say the state
abbrev pub SaysNothingOr : State → (ℕ → List ℕ) → Type 0
SaysNothingOr s images = (stands images ≡ None) ⊎ Says s images
