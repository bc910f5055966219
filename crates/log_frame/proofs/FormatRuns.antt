-- A header is closed, and then a new log is written.
use Rattle.std.proofs.Common.{◌≡◌, ℕ, ◌+◌, List, length, Result, Ok, Err, OnOk, arith, inl, inr, length-append}
use Rattle.std.specs.Int.{w64, to_be_bytes}
use Rattle.disk_trait.specs.Disks.{Disks, Leaves}
use Rattle.disk_trait.proofs.Runs.{leaves_then, leaves_weaker}
use Rattle.log_frame.specs.Log.{Opened, Place, Agrees, Stands, new_log, closed_record, header_bytes, IsOldOrShut, IsShutOrNew, IsOldOrNew}
use Rattle.log_frame.proofs.Appends.{record_size}

from_shut : (old image : List ℕ) (new : Opened) → IsOldOrShut old image → IsOldOrNew old new image
from_shut old image new (inl is) = inl is
from_shut old image new (inr none) = inr (inl none)

-- both parts of formatting
pub both_leave : (d0 d1 d2 : Disks) (disk : ℕ) (new : Opened) (bytes : List ℕ) → Leaves d0 d1 disk (IsOldOrShut bytes) → Leaves d1 d2 disk (IsShutOrNew new) → Leaves d0 d2 disk (IsOldOrNew bytes new)
both_leave d0 d1 d2 disk new bytes shut opened =
    leaves_then d0 d1 d2 disk (IsOldOrNew bytes new)
    (leaves_weaker d0 d1 disk (IsOldOrShut bytes) (IsOldOrNew bytes new) (λ image left. from_shut bytes image new left) shut)
    (leaves_weaker d1 d2 disk (IsShutOrNew new) (IsOldOrNew bytes new) (λ image left. inr left) opened)

-- the first part alone
pub shut_leaves : (d0 d1 : Disks) (disk : ℕ) (new : Opened) (bytes : List ℕ) → Leaves d0 d1 disk (IsOldOrShut bytes) → Leaves d0 d1 disk (IsOldOrNew bytes new)
shut_leaves d0 d1 disk new bytes shut = leaves_weaker d0 d1 disk (IsOldOrShut bytes) (IsOldOrNew bytes new) (λ image left. from_shut bytes image new left) shut

pub on_ok : {T E : Type 0} (result : Result T E) (P Q : Type 0) → OnOk result P → (P → Q) → OnOk result Q
on_ok (Ok answer) P Q p leads = leads p
on_ok (Err e) P Q p leads = tt

pub header_size : (sequence : ℕ) (head : List ℕ) → length (header_bytes sequence head) ≡ 13 + length head
header_size sequence head = omega (arith, length-append (to_be_bytes w64 sequence) (closed_record head), record_size head)

-- A new log agrees with its disk.
pub agrees_new : (place : Place) (sequence : ℕ) (head bytes : List ℕ) → place.sequence ≡ sequence → place.end ≡ 13 + length head → Stands bytes (new_log sequence head) → Agrees place bytes
agrees_new place sequence head bytes is end stands = record { opened = new_log sequence head; stands = stands; sequence = is; end = omega (arith, end) }
