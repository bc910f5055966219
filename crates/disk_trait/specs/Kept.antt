-- What contracts see of a disk in memory.
use Rattle.std.specs.Prelude.{◌≡◌, ℕ, ◌+◌, ◌≤◌, List, ◌∷◌, length, Result, Ok, Err, IsErr, IsErrOf}
use Rattle.disk_trait.specs.Change.{PutBack, put_back}
use Rattle.disk_trait.specs.Disks.{written}
use Rattle.disk_trait.specs.Fuse.{one_more}
use Rattle.disk_trait.specs.Record.{ImageNow, newest, picked}
use Rattle.disk_trait.specs.declared.record.Did.{Did}
use Rattle.disk_trait.specs.declared.record.Did.TheVariants.{Failed as FailedCall, Wrote, Restarted}
use Rattle.disk_trait.specs.declared.record.Call.{Call}
use Rattle.disk_trait.specs.declared.mem_disk.Turn.{Turn}
use Rattle.disk_trait.specs.declared.mem_disk.Turn.TheVariants.{Fails, Works}
use Rattle.disk_trait.specs.declared.parts.Outage.{Outage}
use Rattle.disk_trait.specs.declared.parts.Outage.TheVariants.{Failed, NoMemory}

-- the bytes that a read gives, the record of calls with the newest first, and how often the disk failed
pub record Kept : Type 0 where
  pub bytes : List ℕ
  pub calls : List Call
  pub faults : ℕ

-- one call more in the record
abbrev pub noted : Kept → ℕ → Did → Kept
noted disk moment did = record disk { calls = record { time = moment; did = did } ∷ disk.calls }

-- a call that failed and changed nothing
abbrev pub failed_at : Kept → ℕ → Kept
failed_at disk moment = record (noted disk moment FailedCall) { faults = one_more disk.faults }

-- a disk whose bytes became these by a write at this place
pub record WroteTo (old new : Kept) (moment at : ℕ) (bytes : List ℕ) : Type 0 where
  pub change : PutBack
  pub is : new ≡ record (noted old moment (Wrote at change)) { bytes = written old.bytes at bytes }
  pub end : change.end ≡ at + length bytes
  pub back : put_back change new.bytes ≡ old.bytes

-- a disk that a crash with this pick left
pub record RestartedTo (old new : Kept) (moment pick : ℕ) : Type 0 where
  pub change : PutBack
  pub is : new ≡ record (noted old moment (Restarted pick change)) { bytes = picked pick old.calls old.bytes }
  pub back : put_back change new.bytes ≡ old.bytes

-- What a read gives is one of the images, and no call ended later than this moment.
pub record IsSound (moment : ℕ) (disk : Kept) : Type 0 where
  pub image : ImageNow disk.calls disk.bytes disk.bytes
  pub past : newest disk.calls ≤ moment

-- what a call left of a disk: after Ok what is done, after Failed a call more that failed, and after want
-- of memory what was there
abbrev pub Ended : {T : Type 0} → Kept → Kept → ℕ → Type 0 → Result T Outage → Type 0
Ended old new moment done (Ok answer) = done
Ended old new moment done (Err Failed) = new ≡ failed_at old moment
Ended old new moment done (Err NoMemory) = new ≡ old

-- a call whose turn it is to fail doesn't answer Ok, and one whose turn it isn't doesn't answer Failed
abbrev pub IsTurn : {T : Type 0} → Turn → Result T Outage → Type 0
IsTurn Fails result = IsErr result
IsTurn Works result = IsErrOf result Failed → ⊥
