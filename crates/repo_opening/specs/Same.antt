-- What stays of the disks of a repository that is read.
use Rattle.disk_trait.specs.AllDisks.{MayLeaveAll, SameContent}
use Rattle.disk_trait.specs.Disks.{Disks}
use Rattle.std.specs.List.{AllZip}
use Rattle.std.specs.Prelude.{List, ℕ}

-- A read of each disk gives what it gave before, and a crash now leaves nothing that it couldn't have left before.
pub record Same (old new : Disks) : Type 0 where
  pub content : SameContent old new
  pub crash : (images : ℕ → List ℕ) → MayLeaveAll new new.time images → MayLeaveAll old old.time images

-- the same repositories, in their order, whose disks are as they were
abbrev pub AreSame : {P : Type 0} → (P → Disks) → List P → List P → Type 0
AreSame disks old new = AllZip (λ before after. Same (disks before) (disks after)) old new
