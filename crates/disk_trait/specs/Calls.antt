-- What the calls of a repository's parts do. `result` is what the call answers.
use Rattle.std.specs.Prelude.{◌≡◌, ℕ, ◌+◌, ◌-◌, ◌^◌, ◌<◌, ◌≤◌, List, length, take, drop, Some, Result, IfOk, OnOk, IsErr, IsErrOf}
use Rattle.disk_trait.specs.Disks.{Disks, OnDisk, Rose, WhereTold, IsSettled, NoNewImage, TornAlone, written}
use Rattle.disk_trait.specs.declared.parts.Outage.{Outage}
use Rattle.disk_trait.specs.declared.parts.Outage.TheVariants.{Failed, NoMemory}

-- One call on this disk: it ends at the next moment, and that disk's count of faults rises where it answers
-- Failed and nowhere else. Only a call that wants memory may end where it began.
pub record IsCall {T : Type 0} (old new : Disks) (disk : ℕ) (result : Result T Outage) : Type 0 where
  pub alone : OnDisk old new disk
  pub one_moment : new.time ≤ old.time + 1
  pub ticks : OnOk result (old.time < 2 ^ 64 - 1 → new.time ≡ old.time + 1)
  pub failed : IsErrOf result Failed → Rose (old.faults disk) (new.faults disk)
  pub steady : OnOk result (new.faults disk ≡ old.faults disk)
  pub wanting : IsErrOf result NoMemory → new.faults disk ≡ old.faults disk

-- a read of the bytes from a place on, into all of `into`
pub record Reads {T : Type 0} (old new : Disks) (disk at : ℕ) (before after : List ℕ) (result : Result T Outage) : Type 0 where
  pub call : IsCall old new disk result
  pub bytes : OnOk result (WhereTold old disk (λ bytes. after ≡ take (length before) (drop at bytes)))
  pub content : new.content disk ≡ old.content disk
  pub crash : NoNewImage old new disk

-- a write of bytes at a place; one whose end would be above 2 ^ 40 is refused and changes nothing
pub record Writes {T : Type 0} (old new : Disks) (disk at : ℕ) (bytes : List ℕ) (result : Result T Outage) : Type 0 where
  pub call : IsCall old new disk result
  pub content : OnOk result (WhereTold old disk (λ before. new.content disk ≡ Some (written before at bytes)))
  pub crash : TornAlone old new disk at (length bytes)
  pub too_far : 2 ^ 40 < at + length bytes → IsErr result
  pub unchanged : 2 ^ 40 < at + length bytes → new.content disk ≡ old.content disk
  pub untorn : 2 ^ 40 < at + length bytes → NoNewImage old new disk

-- a sync: after Ok a crash leaves what a read gives
pub record Syncs {T : Type 0} (old new : Disks) (disk : ℕ) (result : Result T Outage) : Type 0 where
  pub call : IsCall old new disk result
  pub settled : OnOk result (IsSettled new disk)
  pub content : new.content disk ≡ old.content disk
  pub crash : NoNewImage old new disk

-- the length of a disk
pub record TellsLength (old new : Disks) (disk : ℕ) (result : Result ℕ Outage) : Type 0 where
  pub call : IsCall old new disk result
  pub bytes : IfOk result (λ n. WhereTold old disk (λ bytes. n ≡ length bytes))
  pub content : new.content disk ≡ old.content disk
  pub crash : NoNewImage old new disk

-- a crash of the disk: after Ok a read gives one of the images from before, and a crash leaves only that
pub record Restarts {T : Type 0} (old new : Disks) (disk : ℕ) (result : Result T Outage) : Type 0 where
  pub call : IsCall old new disk result
  pub settled : OnOk result (IsSettled new disk)
  pub crash : NoNewImage old new disk
