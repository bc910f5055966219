-- What is known of a repository that was recovered.
use Rattle.disk_trait.specs.AllDisks.{AllSettled}
use Rattle.disk_trait.specs.Disks.{Disks, WhereTold}
use Rattle.repo_state.specs.Keeps.{Keeps}
use Rattle.log_codec.specs.declared.state.State.{State}
use Rattle.page_store.specs.Sides.{ReachesSides}
use Rattle.page_store.specs.Store.{Agrees, Store}
use Rattle.recovery.specs.Found.{recorded}
use Rattle.recovery.specs.Paged.{AreObjectPages, HasSides}
use Rattle.recovery.specs.declared.recovered.Recovered.{Recovered}
use Rattle.commit_log.specs.Holds.{Holds}
use Rattle.std.specs.Prelude.{List, length, None, Option, Some, ℕ, ◌≡◌}

-- pages agree with a disk that reaches their sides
abbrev pub AgreesWhere : Store → Type 0
AgreesWhere pages = (disk : List ℕ) → ReachesSides pages.sides disk → Agrees pages disk

-- The log of these disks holds the state that is in memory, of its own format, and that is one of a repository. The disk of
-- pages has each side in use, and a page of objects there.
pub record IsRecovered (disks : Disks) (r : Recovered) : Type 0 where
  pub state : State
  pub said : state ≡ recorded r
  pub holds : Holds disks r.log state
  pub keeps : Keeps r.state
  pub pages : AgreesWhere r.state.objects.pages
  pub sides : WhereTold disks 2 (HasSides r.format r.state.objects.pages.sides)
  pub paged : WhereTold disks 2 (AreObjectPages r.format r.state.repo r.state.objects.pages.sides)

-- the same before its pages were read
pub record IsHeld (disks : Disks) (r : Recovered) : Type 0 where
  pub holds : Holds disks r.log (recorded r)
  pub keeps : Keeps r.state
  pub pages : AgreesWhere r.state.objects.pages

-- what contracts see of a repository that was recovered: its parts, and what its log stands for
pub record Kept (P : Type 0) : Type 0 where
  pub parts : P
  pub recovered : Recovered

-- what a reading of a repository finds: nothing where it is fresh, and its disks are settled
abbrev pub Finds : {X : Type 0} → Disks → Option (Recovered × X) → Type 0
Finds disks None = AllSettled disks
Finds disks (Some found) = IsRecovered disks found.0

-- the disk of pages has so many bytes, where that is told
pub record HasBytes (disks : Disks) (n : ℕ) : Type 0 where
  pub told : WhereTold disks 2 (λ disk. n ≡ length disk)
