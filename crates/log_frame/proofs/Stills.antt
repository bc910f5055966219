-- A call that changes nothing on a disk, and then more of them.
use Rattle.std.proofs.Common.{ℕ, Result}
use Rattle.disk_trait.specs.Calls.{IsCall}
use Rattle.disk_trait.specs.Disks.{Disks, Leaves, MayLeave, NoNewImage}
use Rattle.disk_trait.specs.declared.parts.Outage.{Outage}
use Rattle.disk_trait.proofs.Runs.{leaves_then, still_call, still_none}

pub call_then_still : {T : Type 0} (old mid new : Disks) (disk : ℕ) (result : Result T Outage) → IsCall old mid disk result → NoNewImage old mid disk → Leaves mid new disk (MayLeave mid disk) → Leaves old new disk (MayLeave old disk)
call_then_still old mid new disk result call same then = leaves_then old mid new disk (MayLeave old disk) (still_call old old mid disk result (still_none old disk) call same) (record {
  alone = then.alone;
  each = λ m image from to left. same image (then.each m image from to left);
})
