-- Parts in memory.
use Rattle.std.specs.Prelude.{◌≡◌, ℕ, ◌+◌, ◌-◌, ◌^◌, min, Bool, true, false, ◌&&◌, ◌||◌, ◌==◌, nat_lt, List, [], Option, Some, None, slice_get, slice_set, Result, IsErr, IsErrOf}
use Rattle.std.specs.List.{list_any}
use Rattle.disk_trait.specs.Disks.{Disks}
use Rattle.disk_trait.specs.Kept.{Kept, Ended}
use Rattle.disk_trait.specs.Record.{ImageAt}
use Rattle.disk_trait.specs.declared.record.Call.{Call}
use Rattle.disk_trait.specs.declared.parts.Outage.{Outage}
use Rattle.disk_trait.specs.declared.parts.Outage.TheVariants.{Failed}
use Rattle.disk_trait.specs.declared.mem_disk.Turn.{Turn}
use Rattle.disk_trait.specs.declared.mem_disk.Turn.TheVariants.{Fails, Works}

-- the bytes of a disk, where there is one
abbrev pub bytes_of : Option Kept → Option (List ℕ)
bytes_of (Some disk) = Some disk.bytes
bytes_of None = None

-- the record of a disk, the newest call first
abbrev pub calls_of : Option Kept → List Call
calls_of (Some disk) = disk.calls
calls_of None = []

-- how often a disk failed
abbrev pub faults_of : Option Kept → ℕ
faults_of (Some disk) = min disk.faults (2 ^ 64 - 1)
faults_of None = 0

-- what a crash at a moment may have left of a disk
abbrev pub images_of : ℕ → Option Kept → List ℕ → Type 0
images_of moment (Some disk) image = ImageAt moment disk.calls disk.bytes image
images_of moment None image = ⊥

-- What contracts see of parts in memory: all there is to know.
abbrev pub told : List Kept → ℕ → ℕ → Disks
told disks moment clock =
    record {
      content = λ d. bytes_of (slice_get disks d);
      time = moment;
      images = λ m d image. images_of m (slice_get disks d) image;
      faults = λ d. faults_of (slice_get disks d);
      clock = clock;
    }

-- whether this pair is the next call on this disk, before which it had so many; calls count from 1
abbrev pub is_call : ℕ × ℕ → ℕ → ℕ → Bool
is_call fail disk count = (fail.0 == disk) && (fail.1 == count + 1)

-- whether the next call on this disk, before which it had so many, is in the list of those that fail
abbrev pub is_listed : List (ℕ × ℕ) → ℕ → ℕ → Bool
is_listed fails disk count = list_any (λ fail. is_call fail disk count) fails

-- whether a write with this end fails: it is in the list, or ends above 2 ^ 40
abbrev pub is_refused : List (ℕ × ℕ) → ℕ → ℕ → ℕ → Bool
is_refused fails disk count end = nat_lt (2 ^ 40) end || is_listed fails disk count

-- One call on a disk in memory, which fails where it is due to: what it made of the disk, and that the
-- other disks stay.
pub record MemCall {T : Type 0} (before after : List Kept) (disk moment : ℕ) (fails : Kept → Bool) (done : Kept → Kept → Type 0) (result : Result T Outage) : Type 0 where
  pub old : Kept
  pub new : Kept
  pub stood : slice_get before disk ≡ Some old
  pub stands : after ≡ slice_set before disk new
  pub ended : Ended old new moment (done old new) result
  pub due : fails old ≡ true → IsErr result
  pub failed : IsErrOf result Failed → fails old ≡ true

-- what a call with this turn is due to do
abbrev pub turn_of : Bool → Turn
turn_of true = Fails
turn_of false = Works

-- a disk with these bytes that nobody has called
abbrev pub fresh : List ℕ → Kept
fresh bytes = record { bytes = bytes; calls = []; faults = 0 }
